-- The law of weather profiles. Assumes nothing.
use Rattle.std.specs.Prelude.{◌≡◌, ℕ, ◌+◌, ◌-◌, ◌*◌, ◌<◌, ◌≤◌, Bool, true, false, cond, ◌&&◌, List, [], length, replicate, ℤ, Some, None, Option, nat_le, nat_lt, slice_index_or, slice_set, refl}
use Rattle.std.proofs.Common.{arith}
use Rattle.std.proofs.lemmas.Bool.{le-leb, lt-ltb, leb-true, ltb-true, and_from, and_parts, cond_both}
use Rattle.std.proofs.lemmas.Bool.Decides.{nat_tests}
use Rattle.std.proofs.lemmas.Grind.{common_steps}
use Rattle.std.specs.Option.{option_map}
use Rattle.shelf.specs.declared.group.Group.{Group}
use Rattle.shelf.specs.Meaning.{Row, Fits, Lawful}
use Rattle.weather.specs.Temperatures.{temperature_row}
use Rattle.weather.specs.Weathers.{Chosen, holds, place, told_row, profile_row, weather_meaning}
use Rattle.shelf.proofs.Listed.{is_listed}

pub temperature_row_below : (t : ℤ) (r : ℕ) → temperature_row t ≡ Some r → r < 35
temperature_row_below t r e = grind (arith, nat_tests)

-- nothing is told at first
pub chosen_none : (told : List (Option ℕ)) (n : ℕ) → told ≡ replicate n None → Chosen told
chosen_none told n e k r h = grind (arith, common_steps)

pub chosen_set : (told : List (Option ℕ)) (i r : ℕ) → i < length told → Chosen told → r < 35 → Chosen (slice_set told i (Some r))
chosen_set told i r short chosen below k x e = grind (arith, common_steps, chosen k x)

module _ (n first days : ℕ) where
  pub held_from : (p d : ℕ) → p < n → first ≤ d → d - first < days → holds n first days p d ≡ true
  held_from p d in_p from within = and_from _ _ (lt-ltb p n in_p) (and_from _ _ (le-leb first d from) (lt-ltb (d - first) days within))

  pub held_parts : (p d : ℕ) → holds n first days p d ≡ true → (p < n) × (first ≤ d) × (d - first < days)
  held_parts p d t =
      let parts = and_parts (nat_lt p n) (nat_le first d && nat_lt (d - first) days) t in
      let window = and_parts (nat_le first d) (nat_lt (d - first) days) parts.1 in
      (ltb-true p n parts.0, leb-true first d window.0, ltb-true (d - first) days window.1)

  -- what was told is a row, of a profile and day that the window holds
  pub told_held : (told : List (Option ℕ)) (p d r : ℕ) → Chosen told → told_row n first days told p d ≡ Some r → (holds n first days p d ≡ true) × (r < 35)
  told_held told p d r chosen = ways (holds n first days p d)
    where
      ways : (b : Bool) → cond b (slice_index_or told (place first days p d) None) None ≡ Some r → (b ≡ true) × (r < 35)
      ways true e = (refl, chosen (place first days p d) r e)
      ways false e = let z : ◌≡◌ {A = ℕ} 0 1 = cc in absurd (omega arith)

  -- its place among 35 rows for each profile
  pub row_place : (told : List (Option ℕ)) (p d r : ℕ) → Chosen told → told_row n first days told p d ≡ Some r → 35 * p + r < 35 * n
  row_place told p d r chosen e =
      let held = told_held told p d r chosen e in
      omega (arith, held.1, (held_parts p d held.0).0)

module _ (groups : List Group) (rows : List (List ℕ)) (first days : ℕ) (told : List (Option ℕ)) (full : (k : ℕ) → k < 35 * length groups → Row (slice_index_or rows k [])) (last : first + days ≤ 14610) where
  row_fits : (p d : ℕ) (row : Option ℕ) → holds (length groups) first days p d ≡ true → ((r : ℕ) → row ≡ Some r → r < 35) → Fits (weather_meaning groups rows first days told) p d (option_map (profile_row rows p) row)
  row_fits p d None held below = tt
  row_fits p d (Some r) held below =
      let parts = held_parts (length groups) first days p d held in
      let in_p : p < length groups = parts.0 in
      let lt : r < 35 = below r refl in
      (in_p, omega (arith, parts.1, parts.2), full (35 * p + r) (omega arith))

  known_fits : Chosen told → (p d : ℕ) (row : Option ℕ) → told_row (length groups) first days told p d ≡ row → Fits (weather_meaning groups rows first days told) p d (option_map (profile_row rows p) row)
  known_fits chosen p d None e = tt
  known_fits chosen p d (Some r) e =
      let held = told_held (length groups) first days told p d r chosen e in
      row_fits p d (Some r) held.0 (λ x same. let eq : r ≡ x = cc in omega (arith, held.1))

  pub weather_lawful : length groups ≤ 64 → Chosen told → Lawful (weather_meaning groups rows first days told)
  weather_lawful few chosen = record {
    few = few;
    grouped = is_listed groups;
    known_fits = λ p d. known_fits chosen p d (told_row (length groups) first days told p d) refl;
    given_fits = λ p d t. cond_both (holds (length groups) first days p d) (option_map (profile_row rows p) (temperature_row t)) None (Fits (weather_meaning groups rows first days told) p d) (λ held. row_fits p d (temperature_row t) held (temperature_row_below t)) (λ _. tt);
  }
