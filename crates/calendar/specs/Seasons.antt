-- The seasons, by month and day.
--     from a b m d      day d of month m is day b of month a or later in the year
--     up_to a b m d     day d of month m is day b of month a or earlier in the year
--     winter m d        1 November to 20 March
--     summer m d        15 May to 14 September
--     season_at m d     the season of day d of month m
--     season n          the season of day n
-- Assumes nothing.
use Rattle.std.specs.Prelude.{ℕ, Bool, cond, ◌&&◌, ◌||◌, ◌==◌, nat_le, nat_lt}
use Rattle.calendar.specs.declared.season.Season.{Season}
use Rattle.calendar.specs.declared.season.Season.TheVariants.{Winter, Summer, Transition}
use Rattle.calendar.specs.Dates.{date_of}

abbrev pub from : ℕ → ℕ → ℕ → ℕ → Bool
from a b m d = nat_lt a m || (m == a && nat_le b d)

abbrev pub up_to : ℕ → ℕ → ℕ → ℕ → Bool
up_to a b m d = nat_lt m a || (m == a && nat_le d b)

abbrev pub winter : ℕ → ℕ → Bool
winter m d = nat_le 11 m || up_to 3 20 m d

abbrev pub summer : ℕ → ℕ → Bool
summer m d = from 5 15 m d && up_to 9 14 m d

abbrev pub season_at : ℕ → ℕ → Season
season_at m d = cond (winter m d) Winter (cond (summer m d) Summer Transition)

abbrev pub season : ℕ → Season
season n = season_at (date_of n).month (date_of n).day
