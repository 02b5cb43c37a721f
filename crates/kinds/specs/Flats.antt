-- A profile with one value in every quarter hour of every day.
--     flat_meaning v g    the one profile, of group g, has the value v; every day is known, and no number is taken
-- Assumes nothing.
use Rattle.std.specs.Prelude.{ℕ, cond, ◌&&◌, replicate, Some, None, ◌==◌, nat_le}
use Rattle.shelf.specs.declared.group.Group.{Group}
use Rattle.shelf.specs.Meaning.{Meaning}

abbrev pub flat_meaning : ℕ → Group → Meaning
flat_meaning v g = record {
  count = 1;
  group = λ p. cond (p == 0) (Some g) None;
  known = λ p d. cond (p == 0 && nat_le d 14609) (Some (replicate 96 v)) None;
  gives = λ p d n. None;
}
