-- The one row of a flat profile. Assumes nothing.
use Rattle.std.specs.Prelude.{◌≡◌, ℕ, ◌≤◌, ◌&&◌, replicate, Some, None, ◌==◌, nat_le}
use Rattle.std.proofs.Common.{arith}
use Rattle.std.proofs.lemmas.List.{length-replicate, get_or-replicate}
use Rattle.std.proofs.lemmas.Bool.{cond_both}
use Rattle.std.proofs.lemmas.Bool.Decides.{nat_tests}
use Rattle.shelf.specs.declared.group.Group.{Group}
use Rattle.shelf.specs.Meaning.{Row, Capped, Fits, Lawful}
use Rattle.shelf.proofs.DayRowFacts.{capped_within}
use Rattle.kinds.specs.AllKnown.{AllKnown}
use Rattle.kinds.specs.Flats.{flat_meaning}

pub flat_capped : (v : ℕ) → v ≤ 9999 → Capped (replicate 96 v)
flat_capped v h = capped_within (replicate 96 v) (λ q short. omega (arith, get_or-replicate 96 q v 0 short))

flat_row : (v : ℕ) → v ≤ 9999 → Row (replicate 96 v)
flat_row v h = record { full = length-replicate 96 v; capped = flat_capped v h }

pub flat_lawful : (v : ℕ) (g : Group) → v ≤ 9999 → Lawful (flat_meaning v g)
flat_lawful v g h = record {
  few = omega arith;
  grouped = λ p. grind (arith, nat_tests);
  known_fits = λ p d. cond_both (p == 0 && nat_le d 14609) (Some (replicate 96 v)) None (Fits (flat_meaning v g) p d)
      (λ t. (grind (arith, nat_tests), grind (arith, nat_tests), flat_row v h)) (λ _. tt);
  given_fits = λ p d n. tt;
}

pub flat_all_known : (v : ℕ) (g : Group) → AllKnown (flat_meaning v g)
flat_all_known v g p d in_p exists = grind (arith, nat_tests)

pub flat_known : (v : ℕ) (g : Group) (p d : ℕ) → p ≡ 0 → d ≤ 14609 → (flat_meaning v g).known p d ≡ Some (replicate 96 v)
flat_known v g p d first exists = grind (arith, nat_tests)
