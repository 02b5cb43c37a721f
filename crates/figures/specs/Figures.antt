-- Worked figures of the trade, which the definitions of the other crates are held to.
--     date y m d            day d of month m of year y
--     first_bill t a        the kWh of a delivery's first bill, with a target of t kWh and an actual of a kWh
--     Figures               the figures
-- Assumes nothing.
use Rattle.std.specs.Prelude.{◌≡◌, ℕ, ◌*◌, ℤ, pos, negsuc, Some}
use Rattle.units.specs.Energy.{rounded, difference_of, billed}
use Rattle.units.specs.Money.{amount_of}
use Rattle.calendar.specs.declared.Date.{Date}
use Rattle.calendar.specs.declared.DayKind.TheVariants.{Holiday}
use Rattle.calendar.specs.declared.Weekday.TheVariants.{Monday}
use Rattle.calendar.specs.Dates.{day_of}
use Rattle.calendar.specs.Weeks.{weekday}
use Rattle.calendar.specs.Kinds.{federal_kind}
use Rattle.weather.specs.Temperatures.{temperature_row}
use Rattle.price.specs.Rounding.{unified}

abbrev pub date : ℕ → ℕ → ℕ → Date
date y m d = record { year = y; month = m; day = d }

abbrev pub first_bill : ℕ → ℕ → ℤ
first_bill t a = billed (pos 0) (difference_of (pos (40000000 * t)) (pos a))

pub record Figures : Type 0 where
  -- 1 January 2007 is day 2,557, a Monday
  pub new_year : day_of (date 2007 1 1) ≡ Some 2557
  pub monday : weekday 2557 ≡ Monday
  -- Whit Monday, 28 May 2007, counts as a holiday
  pub whit_monday : day_of (date 2007 5 28) ≡ Some 2704
  pub whit_monday_kind : federal_kind 2704 ≡ Holiday
  -- the row of a mean temperature, in tenths of a degree
  pub just_below_zero : temperature_row (negsuc 4) ≡ Some 16
  pub coldest : temperature_row (negsuc 170) ≡ Some 0
  pub warmest : temperature_row (pos 180) ≡ Some 34
  -- bills at the beginning of use, within it, at its end, and over the whole of it
  pub at_the_beginning : first_bill 495 400 ≡ pos 95
  pub before_balancing : first_bill 0 140 ≡ negsuc 139
  pub within : first_bill 565 600 ≡ negsuc 34
  pub within_later : first_bill 1315 700 ≡ pos 615
  pub at_the_end : first_bill 2715 2400 ≡ pos 315
  pub at_the_end_later : first_bill 2220 1850 ≡ pos 370
  pub the_whole : first_bill 2715 2705 ≡ pos 10
  -- a cost of 57.007 euros for 998.97 kWh
  pub unified_price : unified (pos 570070000) 99897 ≡ pos 571
  -- halves go up
  pub half_up : rounded (pos 20000000) ≡ pos 1
  pub half_up_below_zero : rounded (negsuc 19999999) ≡ pos 0
  pub past_half_below_zero : rounded (negsuc 20000000) ≡ negsuc 0
  -- −5 kWh at 4.50 cents are −23 cents
  pub half_a_cent_away : amount_of (negsuc 4) (pos 450) ≡ negsuc 22
