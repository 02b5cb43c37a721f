-- Which row of a temperature-dependent profile a day has.
--     held d               d degrees held within -17 to 17, and 17 added
--     measurable t         t tenths of a degree are from -500 to 500
--     temperature_row t    the row of t tenths of a degree, rounded down to a degree; none where they are not measurable
-- Assumes nothing.
use Rattle.std.specs.Prelude.{ℕ, ◌+◌, ◌-◌, min, Bool, cond, ℤ, pos, negsuc, Some, None, Option, nat_le, nat_lt}
use Rattle.units.specs.Energy.{floor_div}

-- negsuc d is -(d + 1)
abbrev pub held : ℤ → ℕ
held (pos d) = 17 + min d 17
held (negsuc d) = 17 - min (d + 1) 17

abbrev pub measurable : ℤ → Bool
measurable (pos t) = nat_le t 500
measurable (negsuc t) = nat_lt t 500

abbrev pub temperature_row : ℤ → Option ℕ
temperature_row t = cond (measurable t) (Some (held (floor_div t 10))) None
