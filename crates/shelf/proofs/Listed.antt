-- Profiles as the elements of a list. Assumes nothing.
use Rattle.std.proofs.Common.{◌≡◌, ℕ, ltb, List, length, is_some, arith}
use Rattle.std.proofs.lemmas.Bool.Decides.{nat_tests}
use Rattle.std.proofs.lemmas.Option.{slice_get_cases}
use Rattle.std.specs.List.{slice_get}

-- there is an element at each place below the length, and at no other
pub is_listed : {X : Type 0} (xs : List X) (p : ℕ) → is_some (slice_get xs p) ≡ ltb p (length xs)
is_listed xs p = grind (arith, nat_tests, slice_get_cases xs p)
