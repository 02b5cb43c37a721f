use Rattle.std.proofs.Common.{◌≡◌, ℕ, ◌<◌, List, length, get_or, set, Some, None, Option, sym, ap, ◌∙◌, arith, w32, SFits, rules}
use Rattle.std.proofs.lemmas.Int.{to_z-of_z}
use Rattle.std.proofs.lemmas.Option.{cond_some}
use Rattle.shelf.specs.Meaning.{Meaning}
use Rattle.shelf.specs.DayRows.{rows_of}
use Rattle.weather.specs.Temperatures.{temperature_row}
use Rattle.weather.specs.Weathers.{holds, place, weather_meaning}
use Rattle.weather.proofs.WeatherTells.{tells_day}
use Rattle.weather.proofs.weather.WeatherTellShelf.tell.Goals as goal

-- what is written at the place, whatever sum gave the place
told_at : (meaning : List (Option ℕ) → Meaning) (told : List (Option ℕ)) (at k row : ℕ) (m : Meaning) → at ≡ k → meaning (set told k (Some row)) ≡ m → meaning (set told at (Some row)) ≡ m
told_at meaning told at k row m is after = ap (λ i. meaning (set told i (Some row))) is ∙ after

pub returns-clause-after : goal.returns-clause-after
returns-clause-after c =
    let s = c.args.self.now in
    let p = c.args.tell.profile in
    let d = c.args.tell.day in
    let t = c.args.tell.number in
    let k = c.in_ok-at.at in
    let row = c.in_ok-row.row in
    let fits : SFits w32 t = search rules in
    let held = cond_some (holds (length s.groups.items) s.first s.days p d) (place s.first s.days p d) k (sym c.place.ensures.value ∙ c.in_ok-at.ensures.ok_part) in
    let short : k < length s.told.items = search rules in
    let unknown : get_or s.told.items k None ≡ None = grind arith in
    let taken = sym (ap temperature_row (to_z-of_z w32 t fits)) ∙ sym c.temperature_row.ensures ∙ c.in_ok-row.ensures.ok_part in
    let after = tells_day s.groups.items (rows_of s.rows.items) s.first s.days s.told.items p d k row held.0 held.1 short t c.if-tell-gt-LAST_DAY.false unknown taken in
    told_at (weather_meaning s.groups.items (rows_of s.rows.items) s.first s.days) s.told.items _ k row _ (omega arith) after
