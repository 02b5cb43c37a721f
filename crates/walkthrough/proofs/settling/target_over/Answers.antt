use Rattle.std.proofs.Common.{◌≡◌, ◌+◌, ◌*◌, ◌^◌, ◌≤◌, pos, nat_abs, sym, ap, ◌∙◌, subst, arith}
use Rattle.walkthrough.proofs.Days.{day_more, days_held}
use Rattle.walkthrough.proofs.settling.target_over.Goals as goal

pub add-target-requires : goal.add-target-requires
add-target-requires c =
    let next = day_more c.loop-day.target.count c.on_day.result.count c.loop-day._day (c.args.forecast * c.args.day_sum) c.loop-day.invariant c.on_day.ensures in
    subst (λ z. nat_abs z ≤ 10 ^ 30) (sym next) (days_held (c.loop-day._day + 1) c.args.forecast c.args.day_sum (omega arith) (omega arith) (omega arith))

pub loop-day-preserved : goal.loop-day-preserved
loop-day-preserved c =
    c.add-target.ensures ∙ day_more c.loop-day.target.count c.on_day.result.count c.loop-day._day (c.args.forecast * c.args.day_sum) c.loop-day.invariant c.on_day.ensures

pub returns : goal.returns
returns c =
    let all : c.loop-day._day ≡ c.args.days = omega arith in
    c.loop-day.invariant ∙ ap (λ i. pos (i * (c.args.forecast * c.args.day_sum))) all
