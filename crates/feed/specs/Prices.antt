-- Exchange prices of hours, in cents per MWh.
--     Prices               per day and hour (0 to 23) a price, None where there is none
--     InRange p            p is a price that a feed may hold, 0 to 300,000
--     HourInRange hour     so is an hour's price, if there is one
--     HoursInRange hours   so is each of the hours
--     Held prices          no price is over 300,000 in size, above zero or below
--     Takes rule is r      r is Ok of what was asked for where the rule holds, and else the refusal OutOfRange
--     flat_prices p        p in every hour
--     table_prices f hs    the hours hs in order, 24 to a day from day f on; there is no price before them or after
-- Assumes nothing.
use Rattle.std.specs.Prelude.{◌≡◌, ℕ, ◌+◌, ◌-◌, ◌*◌, ◌≤◌, cond, ◌&&◌, List, All, ℤ, pos, ◌≤ℤ◌, Some, None, Ok, Err, Option, Result, nat_le, nat_lt, slice_index_or, unsigned_abs}
use Rattle.units.specs.declared.Refusal.{Refusal}
use Rattle.units.specs.declared.Refusal.TheVariants.{OutOfRange}

abbrev pub Prices : Type 0
Prices = ℕ → ℕ → Option ℤ

abbrev pub InRange : ℤ → Type 0
InRange p = (pos 0 ≤ℤ p) × (p ≤ℤ pos 300000)

abbrev pub HourInRange : Option ℤ → Type 0
HourInRange hour = (p : ℤ) → hour ≡ Some p → InRange p

abbrev pub HoursInRange : List (Option ℤ) → Type 0
HoursInRange hours = All HourInRange hours

abbrev pub Held : Prices → Type 0
Held prices = (day hour : ℕ) (p : ℤ) → prices day hour ≡ Some p → unsigned_abs p ≤ 300000

abbrev pub Takes : {X : Type 0} → Type 0 → (X → Type 0) → Result X Refusal → Type 0
Takes rule is (Ok x) = rule × is x
Takes rule is (Err e) = (rule → ⊥) × (e ≡ OutOfRange)

abbrev pub flat_prices : ℤ → Prices
flat_prices p day hour = cond (nat_lt hour 24) (Some p) None

abbrev pub table_prices : ℕ → List (Option ℤ) → Prices
table_prices first hours day hour = cond (nat_le first day && nat_lt hour 24) (slice_index_or hours (24 * (day - first) + hour) None) None
