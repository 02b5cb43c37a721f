use Rattle.std.proofs.Common.{◌≡◌, ℕ, zero, suc, ◌<◌, ◌≤◌, max, List, [], ◌∷◌, length, get_or, fold, refl, arith, rules}
use Rattle.std.proofs.lemmas.Iterator.{YieldsList-from_slice}
use Rattle.std.proofs.lemmas.Iterator.Consumers.{fold_from_yields_List}
use Rattle.shelf.proofs.DayRowFacts.{capped_within}
use Rattle.shelf.proofs.day_row.DayRow.new.Goals as goal

-- the largest of a number and a list is no smaller than each of them, and no larger than what bounds them all
from_start : (a : ℕ) (xs : List ℕ) → a ≤ fold max a xs
from_start a [] = omega arith
from_start a (x ∷ xs) = omega (arith, from_start (max a x) xs)

from_each : (a : ℕ) (xs : List ℕ) (k : ℕ) → k < length xs → get_or xs k 0 ≤ fold max a xs
from_each a [] k h = absurd (omega arith)
from_each a (x ∷ xs) zero h = omega (arith, from_start (max a x) xs)
from_each a (x ∷ xs) (suc k) h = from_each (max a x) xs k (omega arith)

at_most : (a m : ℕ) (xs : List ℕ) → a ≤ m → ((k : ℕ) → get_or xs k 0 ≤ m) → fold max a xs ≤ m
at_most a m [] h each = h
at_most a m (x ∷ xs) h each = at_most (max a x) m xs (omega (arith, each 0)) (λ k. each (suc k))

pub returns-then-largest-gt-LARGEST_VALUE : goal.returns-then-largest-gt-LARGEST_VALUE
returns-then-largest-gt-LARGEST_VALUE c =
    let values = c.args.values in
    let is : c.fold-largest.result ≡ fold max 0 values = fold_from_yields_List _ max 0 c.fold-largest.result c.fold-largest.ensures.ran (YieldsList-from_slice values cc) (λ a x b q k. search rules) in
    (λ capped. omega (arith, at_most 0 9999 values (omega arith) capped), refl)

pub invariant_of-result : goal.invariant_of-result
invariant_of-result c =
    let values = c.args.values in
    let is : c.fold-largest.result ≡ fold max 0 values = fold_from_yields_List _ max 0 c.fold-largest.result c.fold-largest.ensures.ran (YieldsList-from_slice values cc) (λ a x b q k. search rules) in
    record { full = search rules; capped = capped_within values (λ k short. omega (arith, from_each 0 values k short)) }
