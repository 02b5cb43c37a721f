use Rattle.std.proofs.Common.{◌≡◌, ℕ, ◌+◌, ◌*◌, ◌<◌, List, [], length, get_or, Some, sym, ap, ◌∙◌, arith}
use Rattle.std.proofs.lemmas.List.{get_or-map}
use Rattle.std.specs.Option.{option_map}
use Rattle.shelf.specs.declared.day_row.DayRow.{DayRow}
use Rattle.shelf.specs.DayRows.{rows_of}
use Rattle.weather.specs.Weathers.{profile_row}
use Rattle.weather.specs.WeatherDays.{row_place}
use Rattle.weather.proofs.weather.Weather.known_row.Goals as goal

-- what is read at the place of a profile's row, whatever sum gave the place
row_at : (rows : List DayRow) (p r at : ℕ) (x : DayRow) → x ≡ get_or rows at x → at ≡ 35 * p + r → 35 * p + r < length rows → Some x.values ≡ option_map (profile_row (rows_of rows) p) (Some r)
row_at rows p r at x read is short =
    let here : x ≡ get_or rows (35 * p + r) x = read ∙ ap (λ k. get_or rows k x) is in
    ap Some (ap (λ row. row.values) here ∙ sym (get_or-map (λ row. row.values) rows (35 * p + r) x [] short))

pub returns : goal.returns
returns c =
    let s = c.args.self.now in
    let p = c.args.profile in
    let r = c.in_ok-row.row in
    let told = sym c.in_ok-row.was ∙ c.told_row.ensures in
    let within = row_place (length s.groups.items) s.first s.days s.told.items p c.args.day r s.chosen (sym told) in
    row_at s.rows.items p r _ c.index.result.now c.index.ensures (omega arith) (omega (arith, within, s.rule.1)) ∙ ap (option_map (profile_row (rows_of s.rows.items) p)) told
