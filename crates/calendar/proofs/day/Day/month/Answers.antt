use Rattle.std.proofs.Common.{◌≡◌, ℕ, suc, ◌*◌, ◌/◌, ◌<◌, ◌≤◌, sym, ap, add-one, arith}
use Rattle.calendar.specs.Dates.{month_start, month_of, InMonth}
use Rattle.calendar.proofs.Months.{first_low, first_end, one_month}
use Rattle.calendar.proofs.day.Day.month.Goals as goal

pub loop-number-init : goal.loop-number-init
loop-number-init c = omega (arith, first_low (2 * c.args.self.number / 61) (omega arith))

found : (k n : ℕ) → k < 480 → month_start k ≤ n → n < month_start (suc k) → record { is : k ≡ month_of n; inside : InMonth k n }
found k n known from to =
    let i : InMonth k n = record { known = known; from = from; to = to } in
    record { is = sym (one_month k n i); inside = i }

pub returns-then-self-start : goal.returns-then-self-start
returns-then-self-start c =
    let k = c.loop-number.number in
    found k c.args.self.number (omega arith) c.loop-number.invariant (omega (arith, ap month_start (add-one k)))

pub returns : goal.returns
returns c =
    let last : c.loop-number.number ≡ 479 = omega arith in
    found 479 c.args.self.number (omega arith) (omega (arith, ap month_start last)) (omega (arith, first_end))
