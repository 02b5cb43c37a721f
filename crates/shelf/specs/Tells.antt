-- What tells in a row do to a shelf, and what they leave as it is.
--     tells_after m tells        what the shelf means after one tell after the other
--     Keeps m after              the profiles, their groups and what each number gives are the same, and a known day keeps its values
--     KeepsTargets m after       what is balanced over a stretch of days, once it is known, stays as it is
-- Assumes nothing.
use Rattle.std.specs.Prelude.{◌≡◌, ℕ, List, ℤ, Some, Ok, fold}
use Rattle.shelf.specs.Meaning.{Meaning, tell_after}
use Rattle.shelf.specs.Targets.{stretch_target}
use Rattle.shelf.specs.declared.telling.Tell.{Tell}

abbrev pub told_by : Meaning → Tell → Meaning
told_by m tell = tell_after m tell.profile tell.day tell.number

abbrev pub tells_after : Meaning → List Tell → Meaning
tells_after m tells = fold told_by m tells

pub record Keeps (m after : Meaning) : Type 0 where
  pub same_count : after.count ≡ m.count
  pub same_groups : after.group ≡ m.group
  pub same_gives : after.gives ≡ m.gives
  pub keeps_known : (p d : ℕ) (values : List ℕ) → m.known p d ≡ Some values → after.known p d ≡ Some values

abbrev pub KeepsTargets : Meaning → Meaning → Type 0
KeepsTargets m after =
    (p forecast from to : ℕ) (grains : ℤ) → stretch_target m p forecast from to ≡ Ok grains → stretch_target after p forecast from to ≡ Ok grains
