-- A shelf that knows every day of its profiles.
--     AllKnown m    each day that exists is known, of each profile
-- Assumes nothing.
use Rattle.std.specs.Prelude.{◌≡◌, ℕ, ◌<◌, ◌≤◌, true, is_some}
use Rattle.shelf.specs.Meaning.{Meaning}

abbrev pub AllKnown : Meaning → Type 0
AllKnown m = (p d : ℕ) → p < m.count → d ≤ 14609 → is_some (m.known p d) ≡ true
