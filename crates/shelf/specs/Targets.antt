-- What a forecast balances over a stretch of days.
--     balanced m p f d            what a yearly forecast f of profile p balances on day d, None where the day is unknown
--     sum_over part from n        the parts of n days from day `from` on added up, None where one is unknown
--     stretch_target m p f a b    the answer for the days a to b, both included: a refusal, or what is balanced, in grains
--     counted r                   an answer with its grains as a number
-- Assumes nothing.
use Rattle.std.specs.Prelude.{ℕ, zero, suc, ◌+◌, ◌-◌, ◌*◌, cond, ℤ, pos, Some, None, Err, Option, Result, nat_le}
use Rattle.std.specs.Option.{option_map, ok_or}
use Rattle.std.specs.Result.{result_map_both as mapped_result}
use Rattle.units.specs.declared.quantity.Quantity.{Quantity}
use Rattle.units.specs.declared.refusal.Refusal.{Refusal}
use Rattle.units.specs.declared.refusal.Refusal.TheVariants.{NoSuchDate, OutOfRange, DayUnknown}
use Rattle.shelf.specs.Meaning.{Meaning, day_sum}

abbrev pub balanced : Meaning → ℕ → ℕ → ℕ → Option ℕ
balanced m p forecast d = option_map (λ values. forecast * day_sum values) (m.known p d)

abbrev pub add_known : Option ℕ → Option ℕ → Option ℕ
add_known None y = None
add_known (Some x) None = None
add_known (Some x) (Some y) = Some (x + y)

unfoldable pub sum_over : (ℕ → Option ℕ) → ℕ → ℕ → Option ℕ
sum_over part from zero = Some 0
sum_over part from (suc n) = add_known (sum_over part from n) (part (from + n))

abbrev pub stretch_target : Meaning → ℕ → ℕ → ℕ → ℕ → Result ℤ Refusal
stretch_target m p forecast from to =
    cond (nat_le to 14609)
    (cond (nat_le forecast 200000) (ok_or (option_map pos (sum_over (balanced m p forecast) from (to + 1 - from))) DayUnknown) (Err OutOfRange))
    (Err NoSuchDate)

abbrev pub counted : {U : Type 0} {of : _} → Result (Quantity U of) Refusal → Result ℤ Refusal
counted r = mapped_result (λ grains. grains.count) (λ e. e) r
