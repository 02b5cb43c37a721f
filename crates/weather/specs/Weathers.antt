-- Profiles whose row of a day is chosen by the day's mean temperature, which is told.
--     WeatherRule n rows first days    n profiles, at most 64, have 35 rows each, and a window of at most 1,200 days lies within the
--                                      days 0 to 14,609
--     Chosen told                      every row that was told is one of a profile's 35
--     holds n first days p d           profile p is one of n, and day d lies in the window
--     place first days p d             where what was told of that day stands: days by days, profile after profile
--     told_row                         the number of the row told for a profile's day, if any
--     profile_row rows p r             row r of profile p
--     weather_meaning                  a day of the window is known where it was told, and takes every temperature that has a row
-- Assumes nothing.
use Rattle.std.specs.Prelude.{◌≡◌, ℕ, ◌+◌, ◌-◌, ◌*◌, ◌<◌, ◌≤◌, Bool, cond, ◌&&◌, List, [], length, Some, None, Option, nat_le, nat_lt, slice_index_or}
use Rattle.std.specs.Option.{option_map}
use Rattle.std.specs.List.{slice_get}
use Rattle.shelf.specs.declared.group.Group.{Group}
use Rattle.shelf.specs.Meaning.{Meaning}
use Rattle.weather.specs.Temperatures.{temperature_row}

abbrev pub WeatherRule : ℕ → ℕ → ℕ → ℕ → Type 0
WeatherRule n rows first days = (n ≤ 64) × (rows ≡ 35 * n) × (days ≤ 1200) × (first + days ≤ 14610)

abbrev pub Chosen : List (Option ℕ) → Type 0
Chosen told = (k r : ℕ) → slice_index_or told k None ≡ Some r → r < 35

abbrev pub holds : ℕ → ℕ → ℕ → ℕ → ℕ → Bool
holds n first days p d = nat_lt p n && (nat_le first d && nat_lt (d - first) days)

abbrev pub place : ℕ → ℕ → ℕ → ℕ → ℕ
place first days p d = p * days + (d - first)

abbrev pub told_row : ℕ → ℕ → ℕ → List (Option ℕ) → ℕ → ℕ → Option ℕ
told_row n first days told p d = cond (holds n first days p d) (slice_index_or told (place first days p d) None) None

abbrev pub profile_row : List (List ℕ) → ℕ → ℕ → List ℕ
profile_row rows p r = slice_index_or rows (35 * p + r) []

abbrev pub weather_meaning : List Group → List (List ℕ) → ℕ → ℕ → List (Option ℕ) → Meaning
weather_meaning groups rows first days told = record {
  count = length groups;
  group = slice_get groups;
  known = λ p d. option_map (profile_row rows p) (told_row (length groups) first days told p d);
  gives = λ p d t. cond (holds (length groups) first days p d) (option_map (profile_row rows p) (temperature_row t)) None;
}
