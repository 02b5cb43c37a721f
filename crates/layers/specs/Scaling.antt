-- The law of a scaled shelf, its rows, and what a tell does to it. Assumes nothing.
use Rattle.std.specs.Prelude.{◌≡◌, ℕ, ◌<◌, ◌≤◌, Bool, true, false, cond, List, ◌++◌, map, length, take, drop, ℤ, Some, None, Option, ◌==◌, slice_index}
use Rattle.std.proofs.Common.{ap, ◌∙◌, append-nil, ⊎_elim, arith}
use Rattle.std.proofs.lemmas.Bool.{cases_lt}
use Rattle.std.proofs.lemmas.Bool.Decides.{nat_tests}
use Rattle.std.proofs.lemmas.List.{get_or_past, get_or-map, length-map, take_all, drop_all}
use Rattle.std.specs.Option.{option_map}
use Rattle.calendar.specs.Dates.{day_of_year, on_days}
use Rattle.shelf.specs.Meaning.{Meaning, Capped, Fits, Lawful, tell_answer, tell_after}
use Rattle.shelf.proofs.DayRowFacts.{capped_within}
use Rattle.layers.specs.DayFactors.{scaled, scaled_row, scale_at, factor_meaning}

pub scaled_capped : (f : ℕ) (values : List ℕ) → Capped (scaled_row f values)
scaled_capped f values = capped_within (scaled_row f values)
    (λ q short. let in_values : q < length values = omega (arith, length-map values (scaled f)) in omega (arith, get_or-map (scaled f) values q 0 0 in_values))

fits_scaled : (m : Meaning) (named : ℕ) (factors : List ℕ) (p d f : ℕ) (b : Bool) (row : Option (List ℕ)) → Fits m p d row → Fits (factor_meaning named factors m) p d (cond b (option_map (scaled_row f) row) row)
fits_scaled m named factors p d f true None fits = tt
fits_scaled m named factors p d f true (Some values) fits = (fits.0, fits.1, record { full = length-map values (scaled f) ∙ fits.2.full; capped = scaled_capped f values })
fits_scaled m named factors p d f false row fits = fits

pub factor_lawful : (named : ℕ) (factors : List ℕ) (m : Meaning) → Lawful m → Lawful (factor_meaning named factors m)
factor_lawful named factors m law = record {
  few = law.few;
  grouped = law.grouped;
  known_fits = λ p d. fits_scaled m named factors p d (slice_index factors (day_of_year d)) (p == named) (m.known p d) (law.known_fits p d);
  given_fits = λ p d n. fits_scaled m named factors p d (slice_index factors (day_of_year d)) (p == named) (m.gives p d n) (law.given_fits p d n);
}

module _ (named : ℕ) (factors : List ℕ) (m : Meaning) (p d : ℕ) (n : ℤ) where
  pub factor_answer : tell_answer m p d n ≡ tell_answer (factor_meaning named factors m) p d n
  factor_answer = grind (arith, nat_tests)

  pub factor_after : factor_meaning named factors (tell_after m p d n) ≡ tell_after (factor_meaning named factors m) p d n
  factor_after = grind (arith, nat_tests)

-- what holds of each factor holds past the end too
pub factors_below : (factors : List ℕ) (n : ℕ) → length factors ≤ n → ((k : ℕ) → k < n → slice_index factors k ≤ 20000) → (k : ℕ) → slice_index factors k ≤ 20000
factors_below factors n all below k = ⊎_elim (λ lt. below k lt) (λ ge. omega (arith, get_or_past factors k 0 (omega arith))) (cases_lt k n)

-- a day of the named profile is scaled by the day's factor
pub scale_named : (named : ℕ) (factors : List ℕ) (p d f : ℕ) (row : Option (List ℕ)) → p ≡ named → Some f ≡ on_days d (slice_index factors (day_of_year d)) → option_map (scaled_row f) row ≡ scale_at named factors p d row
scale_named named factors p d f row same factor = grind (arith, nat_tests)

-- all values are scaled at the end of a row
pub scaled_all : (f : ℕ) (values : List ℕ) (i : ℕ) → length values ≤ i → map (scaled f) (take i values) ++ drop i values ≡ scaled_row f values
scaled_all f values i all = ap (λ rest. map (scaled f) (take i values) ++ rest) (drop_all i values all) ∙ append-nil (map (scaled f) (take i values)) ∙ ap (map (scaled f)) (take_all i values all)
