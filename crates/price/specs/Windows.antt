-- The months that a price is made from.
--     Applies month        there can be a price for the month: it has thirteen months before it
--     window_start month   the first day of the twelve months from the 13th to the second before it
--     window_days month    the days of these months
-- Assumes nothing.
use Rattle.std.specs.Prelude.{ℕ, ◌-◌, ◌≤◌}
use Rattle.calendar.specs.Dates.{month_start}

abbrev pub Applies : ℕ → Type 0
Applies month = (13 ≤ month) × (month ≤ 479)

abbrev pub window_start : ℕ → ℕ
window_start month = month_start (month - 13)

abbrev pub window_days : ℕ → ℕ
window_days month = month_start (month - 1) - month_start (month - 13)
