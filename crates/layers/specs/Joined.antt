-- The law of a pair of shelves, and that a tell of one half is a tell of the pair. Assumes nothing.
use Rattle.std.specs.Prelude.{◌≡◌, ℕ, ◌-◌, ◌<◌, ◌≤◌, cond, List, ℤ, Some, None, Option, nat_lt}
use Rattle.std.proofs.Common.{arith}
use Rattle.std.proofs.lemmas.Bool.{ltb-true, ltb-false, cond_both}
use Rattle.std.proofs.lemmas.Bool.Decides.{nat_tests}
use Rattle.shelf.specs.Meaning.{Meaning, Fits, Lawful, tell_answer, tell_after}
use Rattle.layers.specs.Pairs.{joined, pair_meaning}

fits_at : (m after : Meaning) (p q d : ℕ) (row : Option (List ℕ)) → (p < m.count → q < after.count) → Fits m p d row → Fits after q d row
fits_at m after p q d None move fits = tt
fits_at m after p q d (Some values) move fits = (move fits.0, fits.1, fits.2)

module _ (a b : Meaning) (law-a : Lawful a) (law-b : Lawful b) where
  -- what each half has fits the pair
  fits_joined : (p d : ℕ) (f g : ℕ → Option (List ℕ)) → ((q : ℕ) → Fits a q d (f q)) → ((q : ℕ) → Fits b q d (g q)) → Fits (pair_meaning a b) p d (joined a.count f g p)
  fits_joined p d f g in_a in_b =
      cond_both (nat_lt p a.count) (f p) (cond (nat_lt p 64) (g (p - a.count)) None) (Fits (pair_meaning a b) p d)
      (λ t. fits_at a (pair_meaning a b) p p d (f p) (λ h. omega (arith, law-a.few)) (in_a p))
      (λ t. cond_both (nat_lt p 64) (g (p - a.count)) None (Fits (pair_meaning a b) p d)
      (λ u. fits_at b (pair_meaning a b) (p - a.count) p d (g (p - a.count)) (λ h. omega (arith, ltb-false p a.count t, ltb-true p 64 u)) (in_b (p - a.count)))
      (λ u. tt))

  pub pair_lawful : Lawful (pair_meaning a b)
  pair_lawful = record {
    few = omega arith;
    grouped = λ p. grind (arith, nat_tests, law-a.grouped p, law-b.grouped (p - a.count), law-a.few);
    known_fits = λ p d. fits_joined p d (λ q. a.known q d) (λ q. b.known q d) (λ q. law-a.known_fits q d) (λ q. law-b.known_fits q d);
    given_fits = λ p d n. fits_joined p d (λ q. a.gives q d n) (λ q. b.gives q d n) (λ q. law-a.given_fits q d n) (λ q. law-b.given_fits q d n);
  }

module _ (a b : Meaning) (p d : ℕ) (n : ℤ) where
  pub answer_first : a.count ≤ 64 → p < a.count → tell_answer a p d n ≡ tell_answer (pair_meaning a b) p d n
  answer_first few first = grind (arith, nat_tests)

  pub after_first : a.count ≤ 64 → p < a.count → pair_meaning (tell_after a p d n) b ≡ tell_after (pair_meaning a b) p d n
  after_first few first = grind (arith, nat_tests)

  -- the first's count is known as k
  pub answer_second_at : (k : ℕ) → k ≡ a.count → k ≤ p → p < 64 → tell_answer b (p - k) d n ≡ tell_answer (pair_meaning a b) p d n
  answer_second_at k e past short = grind (arith, nat_tests)

  pub after_second_at : (k : ℕ) → k ≡ a.count → k ≤ p → p < 64 → pair_meaning a (tell_after b (p - k) d n) ≡ tell_after (pair_meaning a b) p d n
  after_second_at k e past short = grind (arith, nat_tests)
