-- Facts on the rows of a shelf. Assumes nothing.
use Rattle.std.proofs.Common.{◌≡◌, ℕ, zero, suc, ◌<◌, List, [], ◌∷◌, length, get_or, Some, Ok, Err, Result, ap, le_of_suc-le-suc, not-suc-le-zero, ◌≤◌, arith}
use Rattle.std.proofs.lemmas.List.{get_or_past}
use Rattle.std.proofs.lemmas.Bool.{cases_lt}
use Rattle.std.specs.Result.{result_ok}
use Rattle.units.specs.declared.refusal.Refusal.{Refusal}
use Rattle.shelf.specs.declared.day_row.DayRow.{DayRow}
use Rattle.shelf.specs.DayRows.{values_of, rows_of}
use Rattle.units.specs.Makings.{Makes}
use Rattle.shelf.specs.Meaning.{Capped, Row}

-- no value is too large where none is at the places below the length
pub capped_within : (values : List ℕ) → ((q : ℕ) → q < length values → get_or values q 0 ≤ 9999) → Capped values
capped_within values below q = grind (arith, cases_lt q (length values), below q, get_or_past values q 0)

pub row_of : (r : DayRow) → Row r.values
row_of r = record { full = r.full; capped = r.capped }

-- values that keep to the rule make a row
pub row_made : (values : List ℕ) (r : Result DayRow Refusal) → Makes (Capped values) (λ row. row.values ≡ values) r → Capped values → values_of (result_ok r) ≡ Some values
row_made values (Ok row) made capped = ap Some made.1
row_made values (Err e) made capped = absurd (made.0 capped)

-- each list of values in a table of rows is a row
pub rows_full : (rows : List DayRow) (k : ℕ) → k < length rows → Row (get_or (rows_of rows) k [])
rows_full [] k h = absurd (not-suc-le-zero h)
rows_full (r ∷ rows) zero h = row_of r
rows_full (r ∷ rows) (suc k) h = rows_full rows k (le_of_suc-le-suc h)
