use Rattle.std.proofs.Common.{◌-◌, ◌≤◌, arith}
use Rattle.std.proofs.lemmas.Bool.Decides.{nat_tests}
use Rattle.price.proofs.Spans.{Span, start_is, year_span}
use Rattle.price.proofs.window.Window.before.Goals as goal

span : (c : goal.In_ok-end) → Span c.args.month
span c =
    let low : 13 ≤ c.args.month = grind (arith, nat_tests) in
    let high : c.args.month ≤ 479 = grind (arith, nat_tests) in
    year_span c.args.month low high

pub overflow_sub-result : goal.overflow_sub-result
overflow_sub-result c = omega (arith, span c, start_is (c.args.month - 13) c.in_ok-first.first c.in_ok-first.ensures, start_is (c.args.month - 1) c.in_ok-end.end c.in_ok-end.ensures)

pub invariant_of-result : goal.invariant_of-result
invariant_of-result c =
    let year = span c in
    let first_is = start_is (c.args.month - 13) c.in_ok-first.first c.in_ok-first.ensures in
    let end_is = start_is (c.args.month - 1) c.in_ok-end.end c.in_ok-end.ensures in
    record { short = omega arith; inside = omega arith }
