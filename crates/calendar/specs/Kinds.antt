-- What kind of day each day is.
--     weekday_kind w        the kind of a weekday that is no holiday
--     plain_kind n          the kind of day n by its weekday alone
--     fixed_holiday m d     day d of month m is 1 January, 1 May, 3 October, 25 or 26 December
--     easter_holiday e n    day n is Good Friday, Easter Monday, Ascension or Whit Monday, where e is Easter Sunday
--     holiday n             day n is one of these nine
--     federal_kind n        the kind of day n, where a holiday counts before the weekday
-- Assumes nothing.
use Rattle.std.specs.Prelude.{ℕ, ◌+◌, Bool, cond, ◌&&◌, ◌||◌, ◌==◌}
use Rattle.calendar.specs.declared.week.Weekday.{Weekday}
use Rattle.calendar.specs.declared.week.Weekday.TheVariants.{Monday, Tuesday, Wednesday, Thursday, Friday, Saturday, Sunday}
use Rattle.calendar.specs.declared.kind.DayKind.{DayKind}
use Rattle.calendar.specs.declared.kind.DayKind.TheVariants as kind
use Rattle.calendar.specs.Dates.{date_of}
use Rattle.calendar.specs.Weeks.{weekday}
use Rattle.calendar.specs.Easter.{easter}

abbrev pub weekday_kind : Weekday → DayKind
weekday_kind Monday = kind.Workday
weekday_kind Tuesday = kind.Workday
weekday_kind Wednesday = kind.Workday
weekday_kind Thursday = kind.Workday
weekday_kind Friday = kind.Workday
weekday_kind Saturday = kind.Saturday
weekday_kind Sunday = kind.Holiday

abbrev pub plain_kind : ℕ → DayKind
plain_kind n = weekday_kind (weekday n)

abbrev pub fixed_holiday : ℕ → ℕ → Bool
fixed_holiday m d =
    (m == 1 && d == 1) || ((m == 5 && d == 1) || ((m == 10 && d == 3) || ((m == 12 && d == 25) || (m == 12 && d == 26))))

abbrev pub easter_holiday : ℕ → ℕ → Bool
easter_holiday e n = n + 2 == e || (n == e + 1 || (n == e + 39 || n == e + 50))

abbrev pub holiday : ℕ → Bool
holiday n = fixed_holiday (date_of n).month (date_of n).day || easter_holiday (easter (date_of n).year) n

abbrev pub federal_kind : ℕ → DayKind
federal_kind n = cond (holiday n) kind.Holiday (plain_kind n)
