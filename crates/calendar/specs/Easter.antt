-- Easter Sunday: the Sunday after the paschal full moon, by the rule of the Gregorian calendar from 1900 to 2199.
--     moon y                the full moon of year y in days after 21 March, before the two exceptions of the rule
--     moon_age y            the same with the exceptions
--     full_moon y           the day of the full moon
--     to_sunday w           the days from a weekday w to the Sunday after it
--     easter y              the day of Easter Sunday
--     scheme y              Easter by the scheme of 1876 (Butcher's), as 31 times the month plus the day less 1
--     easter_by_scheme y    the day that it gives
--     Easters               Easter is a Sunday, one to seven days after the full moon, and agrees with the scheme
-- Assumes nothing.
use Rattle.std.specs.Prelude.{◌≡◌, ℕ, ◌+◌, ◌-◌, ◌*◌, ◌/◌, ◌%◌, ◌<◌, ◌≤◌, cond, ◌&&◌, ◌||◌, ◌==◌, nat_lt}
use Rattle.calendar.specs.declared.week.Weekday.{Weekday}
use Rattle.calendar.specs.declared.week.Weekday.TheVariants.{Monday, Tuesday, Wednesday, Thursday, Friday, Saturday, Sunday}
use Rattle.calendar.specs.Dates.{month_start, month_index}
use Rattle.calendar.specs.Weeks.{weekday}

abbrev pub moon : ℕ → ℕ
moon y = (19 * (y % 19) + 24) % 30

abbrev pub moon_age : ℕ → ℕ
moon_age y = moon y - cond (moon y == 29 || (moon y == 28 && nat_lt 10 (y % 19))) 1 0

unfoldable pub full_moon : ℕ → ℕ
full_moon y = month_start (month_index y 3) + 20 + moon_age y

abbrev pub to_sunday : Weekday → ℕ
to_sunday Monday = 6
to_sunday Tuesday = 5
to_sunday Wednesday = 4
to_sunday Thursday = 3
to_sunday Friday = 2
to_sunday Saturday = 1
to_sunday Sunday = 7

unfoldable pub easter : ℕ → ℕ
easter y = full_moon y + to_sunday (weekday (full_moon y))

abbrev pub scheme : ℕ → ℕ
scheme y =
    let a = y % 19 in let b = y / 100 in let c = y % 100 in
    let g = (b - (b + 8) / 25 + 1) / 3 in
    let h = (19 * a + b - b / 4 - g + 15) % 30 in
    let l = (32 + 2 * (b % 4) + 2 * (c / 4) - h - c % 4) % 7 in
    h + l + 114 - 7 * ((a + 11 * h + 22 * l) / 451)

abbrev pub easter_by_scheme : ℕ → ℕ
easter_by_scheme y = month_start (month_index y (scheme y / 31)) + scheme y % 31

pub record Easters : Type 0 where
  pub sunday : (y : ℕ) → 2000 ≤ y → y ≤ 2039 → weekday (easter y) ≡ Sunday
  pub after_full_moon : (y : ℕ) → 2000 ≤ y → y ≤ 2039 → (full_moon y < easter y) × (easter y ≤ full_moon y + 7)
  pub by_scheme : (y : ℕ) → 2000 ≤ y → y ≤ 2039 → easter y ≡ easter_by_scheme y
