-- Lists of extra days. Assumes nothing.
use Rattle.std.proofs.Common.{◌≡◌, ℕ, zero, suc, ◌+◌, ◌<◌, ◌≤◌, Bool, true, false, leb, ltb, List, [], ◌∷◌, ◌&&◌, length, get_or, arith}
use Rattle.std.specs.List.{AllAdjacentBelow, IsAllAdjacentAnswer}
use Rattle.std.proofs.lemmas.Bool.Decides.{nat_tests}
use Rattle.calendar.specs.ExtraDays.{rising, among}

-- the test of a day and the next
abbrev pub in_order : ℕ → ℕ → Bool
in_order a b = ltb a b && leb b 14609

-- days that all pass it rise
rises : (low x : ℕ) (xs : List ℕ) → low ≤ x → x ≤ 14609 → AllAdjacentBelow (λ a b. true ≡ in_order a b) (x ∷ xs) (length (x ∷ xs)) → true ≡ rising low (x ∷ xs)
rises low x [] h last up = grind (arith, nat_tests)
rises low x (y ∷ ys) h last up =
    let next : true ≡ in_order x y = up 0 0 (omega arith) in
    let below : x < y = grind (arith, nat_tests) in
    let high : y ≤ 14609 = grind (arith, nat_tests) in
    grind (arith, nat_tests, rises (suc x) y ys (omega arith) high (λ k d l. let e : suc k + 1 ≡ suc (k + 1) = omega arith in rw e at (up (suc k) d (omega arith))))

-- days of which one does not pass it do not
rises_not : (low k : ℕ) (xs : List ℕ) → k + 1 < length xs → ((d : ℕ) → false ≡ in_order (get_or xs k d) (get_or xs (k + 1) d)) → false ≡ rising low xs
rises_not low k [] h out = absurd (omega arith)
rises_not low zero (x ∷ []) h out = absurd (omega arith)
rises_not low zero (x ∷ y ∷ ys) h out = grind (arith, nat_tests, out 0)
rises_not low (suc k) (x ∷ xs) h out =
    let e : suc k + 1 ≡ suc (k + 1) = omega arith in
    grind (arith, nat_tests, rises_not (suc x) k xs (omega arith) (λ d. rw e at (out d)))

-- whether days rise, by the first of them and the test of each and the next
pub rising_by_steps : (xs : List ℕ) (steps : Bool) → 1 ≤ length xs → get_or xs 0 0 ≤ 14609 → IsAllAdjacentAnswer (λ a b r. r ≡ in_order a b) xs steps → steps ≡ rising 0 xs
rising_by_steps [] true some first up = absurd (omega arith)
rising_by_steps (x ∷ xs) true some first up = rises 0 x xs (omega arith) first up
rising_by_steps xs false some first (k, h, out) = rises_not 0 k xs h out

-- a day among days in order is not past the last
pub among_known : (n low : ℕ) (xs : List ℕ) → rising low xs ≡ true → among n xs ≡ true → n ≤ 14609
among_known n low [] r e = grind arith
among_known n low (x ∷ xs) r e = grind (arith, nat_tests, among_known n (suc x) xs)
