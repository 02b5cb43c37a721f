-- What telling a temperature does to weather profiles. Assumes nothing.
use Rattle.std.proofs.Common.{◌≡◌, ℕ, ◌-◌, ◌/◌, ◌%◌, ◌<◌, ◌≤◌, Bool, true, false, cond, ◌&&◌, eqb, ltb, leb, List, length, get_or, set, ℤ, is_ok, Some, None, Ok, Option, sym, refl, ap, ◌∙◌, arith}
use mathlib.Core.Path.{fun_ext}
use Rattle.std.proofs.lemmas.Nat.{div-mul-add, mod-mul-add}
use Rattle.std.proofs.lemmas.List.{get_or-set_same, get_or-set_other}
use Rattle.std.proofs.lemmas.Bool.{lt-ltb, le-leb, eqb-true, and_from, and_parts, eq-eqb, cond-true, both_ways}
use Rattle.std.specs.Option.{option_map}
use Rattle.shelf.specs.declared.group.Group.{Group}
use Rattle.shelf.specs.Meaning.{Meaning, tell_answer, tell_after, with_day, told_answer}
use Rattle.weather.specs.Temperatures.{temperature_row}
use Rattle.weather.specs.Weathers.{holds, place, told_row, profile_row, weather_meaning}
use Rattle.weather.specs.WeatherDays.{held_parts}

-- two profiles' days that the window holds have two places
places_apart : (first days p d q e : ℕ) → first ≤ d → d - first < days → first ≤ e → e - first < days → place first days q e ≡ place first days p d → (q ≡ p) × (e ≡ d)
places_apart first days p d q e from within from-e within-e same =
    let at : e - first ≡ d - first = sym (mod-mul-add q days (e - first) within-e) ∙ ap (λ x. x % days) same ∙ mod-mul-add p days (d - first) within in
    (sym (div-mul-add q days (e - first) within-e) ∙ ap (λ x. x / days) same ∙ div-mul-add p days (d - first) within, omega arith)

is_both : (p d q e : ℕ) → (eqb q p && eqb e d) ≡ true → (q ≡ p) × (e ≡ d)
is_both p d q e t = let both = and_parts (eqb q p) (eqb e d) t in (eqb-true q p both.0, eqb-true e d both.1)

not_both : (p d q e : ℕ) → (eqb q p && eqb e d) ≡ false → (q ≡ p) × (e ≡ d) → ⊥
not_both p d q e t h = both_ways (eqb q p && eqb e d) t (and_from _ _ (eq-eqb q p h.0) (eq-eqb e d h.1))

module _ (groups : List Group) (rows : List (List ℕ)) (first days : ℕ) (told : List (Option ℕ)) (p d k row : ℕ) (held : holds (length groups) first days p d ≡ true) (is : place first days p d ≡ k) (short : k < length told) where
  abbrev before : Meaning
  before = weather_meaning groups rows first days told

  abbrev next : List (Option ℕ)
  next = set told k (Some row)

  told_same : told_row (length groups) first days next p d ≡ Some row
  told_same = cond-true _ _ _ held ∙ ap (λ j. get_or next j None) is ∙ get_or-set_same told k (Some row) None short

  told_other : (q e : ℕ) → ((q ≡ p) × (e ≡ d) → ⊥) → (b : Bool) → (b ≡ true → (q < length groups) × (first ≤ e) × (e - first < days)) → cond b (get_or next (place first days q e) None) None ≡ cond b (get_or told (place first days q e) None) None
  told_other q e ne true within =
      let here = held_parts (length groups) first days p d held in
      let there = within refl in
      get_or-set_other told k (place first days q e) (Some row) None (λ same. ne (places_apart first days p d q e here.1 here.2 there.1 there.2 (same ∙ sym is)))
  told_other q e ne false within = refl

  known_at : (q e : ℕ) (b : Bool) → (b ≡ true → (q ≡ p) × (e ≡ d)) → (b ≡ false → (q ≡ p) × (e ≡ d) → ⊥) → (weather_meaning groups rows first days next).known q e ≡ cond b (Some (profile_row rows p row)) (before.known q e)
  known_at q e true same other =
      ap (λ x. (weather_meaning groups rows first days next).known x e) (same refl).0 ∙ ap (λ y. (weather_meaning groups rows first days next).known p y) (same refl).1
      ∙ ap (option_map (profile_row rows p)) told_same
  known_at q e false same other = ap (option_map (profile_row rows q)) (told_other q e (other refl) (holds (length groups) first days q e) (held_parts (length groups) first days q e))

  abbrev remade : (ℕ → ℕ → Option (List ℕ)) → Meaning
  remade known = record { count = length groups; group = before.group; known = known; gives = before.gives }

  day_set : weather_meaning groups rows first days next ≡ with_day before p d (Some (profile_row rows p row))
  day_set = ap remade (fun_ext (λ q. fun_ext (λ e. known_at q e (eqb q p && eqb e d) (is_both p d q e) (not_both p d q e))))

  module _ (t : ℤ) (exists : d ≤ 14609) (unknown : get_or told k None ≡ None) (takes : temperature_row t ≡ Some row) where
    gives_row : before.gives p d t ≡ Some (profile_row rows p row)
    gives_row = cond-true _ _ _ held ∙ ap (option_map (profile_row rows p)) takes

    not_known : before.known p d ≡ None
    not_known = ap (option_map (profile_row rows p)) (cond-true _ _ _ held ∙ ap (λ j. get_or told j None) is ∙ unknown)

    pub grants : tell_answer before p d t ≡ Ok tt
    grants =
        cond-true (ltb p (length groups)) _ _ (lt-ltb p (length groups) (held_parts (length groups) first days p d held).0)
        ∙ cond-true (leb d 14609) _ _ (le-leb d 14609 exists)
        ∙ ap (λ o. told_answer o (before.gives p d t)) not_known
        ∙ ap (told_answer None) gives_row

    pub tells_day : weather_meaning groups rows first days next ≡ tell_after before p d t
    tells_day = day_set ∙ ap (with_day before p d) (sym gives_row) ∙ sym (cond-true (is_ok (tell_answer before p d t)) _ _ (ap is_ok grants))
