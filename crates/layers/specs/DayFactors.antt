-- A shelf with one profile scaled by a factor for each day of the year.
--     FactorRule count p factors    profile p is one of count profiles, and no factor is over 20,000
--     scaled factor v               v times a factor in ten-thousandths, to the nearest whole number, halves up, and at most 9,999
--     scaled_row factor values      each value scaled
--     scale_at                      what the row of a profile's day becomes: scaled by the day's factor if the profile is the named one
--     factor_meaning p factors m    the shelf m with profile p scaled, both where it is known and where a number gives it
-- Assumes nothing.
use Rattle.std.specs.Prelude.{ℕ, ◌+◌, ◌*◌, ◌/◌, ◌<◌, ◌≤◌, min, cond, List, map, Option, ◌==◌, slice_index}
use Rattle.std.specs.Option.{option_map}
use Rattle.calendar.specs.Dates.{day_of_year}
use Rattle.shelf.specs.Meaning.{Meaning}

abbrev pub FactorRule : ℕ → ℕ → List ℕ → Type 0
FactorRule count p factors = (p < count) × ((k : ℕ) → slice_index factors k ≤ 20000)

abbrev pub scaled : ℕ → ℕ → ℕ
scaled factor v = min ((v * factor + 5000) / 10000) 9999

abbrev pub scaled_row : ℕ → List ℕ → List ℕ
scaled_row factor values = map (scaled factor) values

abbrev pub scale_at : ℕ → List ℕ → ℕ → ℕ → Option (List ℕ) → Option (List ℕ)
scale_at named factors p d row = cond (p == named) (option_map (scaled_row (slice_index factors (day_of_year d))) row) row

abbrev pub factor_meaning : ℕ → List ℕ → Meaning → Meaning
factor_meaning named factors m = record {
  count = m.count;
  group = m.group;
  known = λ p d. scale_at named factors p d (m.known p d);
  gives = λ p d n. scale_at named factors p d (m.gives p d n);
}
