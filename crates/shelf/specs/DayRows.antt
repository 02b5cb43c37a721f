-- The values of a day's row.
--     values_of row    the values, where there is a row
--     rows_of rows     the values of each of the rows
-- Assumes nothing.
use Rattle.std.specs.Prelude.{ℕ, List, map, Option}
use Rattle.std.specs.Option.{option_map}
use Rattle.shelf.specs.declared.day_row.DayRow.{DayRow}

abbrev pub values_of : Option DayRow → Option (List ℕ)
values_of row = option_map (λ r. r.values) row

abbrev pub rows_of : List DayRow → List (List ℕ)
rows_of rows = map (λ r. r.values) rows
