-- From a cost and an energy to a price, in hundredths of a cent per kWh.
--     unified c e      (c + 5e) / (10e) rounded down: c / e, in cents per MWh, by ten, halves up
--     held z           the price z, refused with OutOfRange where it is over 30,000 in size
--     priced c e       unified c e, refused with NoEnergy where e is 0
--     counted r        an answer with its price as a number
-- Assumes nothing.
use Rattle.std.specs.Prelude.{ℕ, ◌*◌, cond, ℤ, pos, ◌+ℤ◌, Ok, Err, Result, ◌==◌, nat_le, unsigned_abs}
use Rattle.std.specs.Result.{result_map_both}
use Rattle.units.specs.declared.PriceHundredths.{PriceHundredths}
use Rattle.units.specs.declared.Refusal.{Refusal}
use Rattle.units.specs.declared.Refusal.TheVariants.{OutOfRange, NoEnergy}
use Rattle.units.specs.Energy.{floor_div}

abbrev pub unified : ℤ → ℕ → ℤ
unified c e = floor_div (c +ℤ pos (5 * e)) (10 * e)

abbrev pub held : ℤ → Result ℤ Refusal
held z = cond (nat_le (unsigned_abs z) 30000) (Ok z) (Err OutOfRange)

abbrev pub priced : ℤ → ℕ → Result ℤ Refusal
priced c e = cond (e == 0) (Err NoEnergy) (held (unified c e))

abbrev pub counted : Result PriceHundredths Refusal → Result ℤ Refusal
counted r = result_map_both (λ p. p.count) (λ e. e) r
