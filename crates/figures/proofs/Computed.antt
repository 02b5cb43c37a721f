-- The figures, computed. Assumes nothing.
use Rattle.std.proofs.Common.{refl}
use Rattle.calendar.specs.Dates.{month_start, length_of, month_of, date_of}
use Rattle.calendar.specs.Weeks.{weekday}
use Rattle.calendar.specs.Easter.{full_moon, easter}
use Rattle.figures.specs.Figures.{Figures}

pub figures : Figures
unfolding month_start length_of month_of date_of weekday full_moon easter
figures = record {
  new_year = refl;
  monday = refl;
  whit_monday = refl;
  whit_monday_kind = refl;
  just_below_zero = refl;
  coldest = refl;
  warmest = refl;
  at_the_beginning = refl;
  before_balancing = refl;
  within = refl;
  within_later = refl;
  at_the_end = refl;
  at_the_end_later = refl;
  the_whole = refl;
  unified_price = refl;
  half_up = refl;
  half_up_below_zero = refl;
  past_half_below_zero = refl;
  half_a_cent_away = refl;
}
