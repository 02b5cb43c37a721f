-- The law of typed profiles, and that every day is known already. Assumes nothing.
use Rattle.std.specs.Prelude.{◌≡◌, ℕ, ◌<◌, ◌≤◌, List, length, ℤ, Some, None, Err, Option, nat_le, refl}
use Rattle.std.proofs.Common.{arith}
use Rattle.std.proofs.lemmas.Option.{slice_get_cases, slice_get_within}
use Rattle.std.proofs.lemmas.Bool.{cond_both, leb-true}
use Rattle.std.proofs.lemmas.Bool.Decides.{nat_tests}
use Rattle.std.specs.Option.{option_map}
use Rattle.std.specs.List.{slice_get}
use Rattle.units.specs.declared.refusal.Refusal.TheVariants.{AlreadyKnown}
use Rattle.calendar.specs.declared.kind.DayKind.{DayKind}
use Rattle.calendar.specs.Seasons.{season}
use Rattle.shelf.specs.Meaning.{Fits, Lawful, tell_answer}
use Rattle.shelf.proofs.DayRowFacts.{row_of}
use Rattle.kinds.specs.AllKnown.{AllKnown}
use Rattle.kinds.specs.declared.typed_profile.TypedProfile.{TypedProfile}
use Rattle.kinds.specs.TypedProfiles.{typed_row}
use Rattle.kinds.specs.Typeds.{typed_meaning}

module _ (kinds : ℕ → DayKind) (profiles : List TypedProfile) where
  row_fits : (p d : ℕ) (profile : Option TypedProfile) → slice_get profiles p ≡ profile → d ≤ 14609 → Fits (typed_meaning kinds profiles) p d (option_map (λ x. (typed_row x (season d) (kinds d)).values) profile)
  row_fits p d None at exists = tt
  row_fits p d (Some x) at exists = (slice_get_within profiles p x at, exists, row_of (typed_row x (season d) (kinds d)))

  pub typed_lawful : length profiles ≤ 64 → Lawful (typed_meaning kinds profiles)
  typed_lawful few = record {
    few = few;
    grouped = λ p. grind (arith, nat_tests, slice_get_cases profiles p);
    known_fits = λ p d. cond_both (nat_le d 14609) (option_map (λ x. (typed_row x (season d) (kinds d)).values) (slice_get profiles p)) None (Fits (typed_meaning kinds profiles) p d) (λ t. row_fits p d (slice_get profiles p) refl (leb-true d 14609 t)) (λ _. tt);
    given_fits = λ p d n. tt;
  }

  pub typed_all_known : AllKnown (typed_meaning kinds profiles)
  typed_all_known p d in_p exists = grind (arith, nat_tests, slice_get_cases profiles p)

  pub typed_known : (p d : ℕ) (x : TypedProfile) → slice_get profiles p ≡ Some x → d ≤ 14609 → (typed_meaning kinds profiles).known p d ≡ Some (typed_row x (season d) (kinds d)).values
  typed_known p d x at exists = grind (arith, nat_tests)

  pub typed_past : (p d : ℕ) → length profiles ≤ p → (typed_meaning kinds profiles).known p d ≡ None
  typed_past p d past = grind (arith, nat_tests, slice_get_cases profiles p)

  pub typed_told : (p d : ℕ) (n : ℤ) → p < length profiles → d ≤ 14609 → tell_answer (typed_meaning kinds profiles) p d n ≡ Err AlreadyKnown
  typed_told p d n in_p exists = grind (arith, nat_tests, slice_get_cases profiles p)
