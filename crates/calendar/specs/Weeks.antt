-- The days of the week.
--     in_week i     the weekday at place i of a week, from Monday (0) to Sunday (6)
--     weekday n     the weekday of day n: day 0 is a Saturday
-- Assumes nothing.
use Rattle.std.specs.Prelude.{ℕ, ◌+◌, ◌%◌, cond, ◌==◌}
use Rattle.calendar.specs.declared.week.Weekday.{Weekday}
use Rattle.calendar.specs.declared.week.Weekday.TheVariants.{Monday, Tuesday, Wednesday, Thursday, Friday, Saturday, Sunday}

abbrev pub in_week : ℕ → Weekday
in_week i =
    cond (i == 0) Monday (cond (i == 1) Tuesday (cond (i == 2) Wednesday (cond (i == 3) Thursday (cond (i == 4) Friday (cond (i == 5) Saturday Sunday)))))

unfoldable pub weekday : ℕ → Weekday
weekday n = in_week ((n + 5) % 7)
