-- What a mix loads, and how much at most. Assumes nothing.
use Rattle.std.proofs.Common.{◌≡◌, ℕ, ◌*◌, ◌≤◌, ltb, List, [], ◌∷◌, get_or, is_some, Some, None, sum_by, Option, unwrap_or, refl, arith}
use Rattle.std.proofs.lemmas.Nat.{mul-le}
use Rattle.std.proofs.lemmas.List.Sums.{sum_by-cons}
use Rattle.std.proofs.lemmas.Bool.{cond_both}
use Rattle.shelf.specs.Meaning.{Meaning, Lawful, Fits, quarter_of}
use Rattle.mix.specs.declared.share.Share.{Share}
use Rattle.mix.specs.declared.mixes.Mix.{Mix}
use Rattle.mix.specs.Shares.{percent_sum}
use Rattle.mix.specs.Mixes.{shares_of}
use Rattle.mix.specs.Loads.{value_of, load}

-- a day is known where its first quarter hour is
pub known_quarter : (row : Option (List ℕ)) → is_some (quarter_of row 0) ≡ is_some row
known_quarter None = refl
known_quarter (Some values) = refl

quarter_bound : (m : Meaning) (p d : ℕ) (row : Option (List ℕ)) (q : ℕ) → Fits m p d row → unwrap_or (quarter_of row q) 0 ≤ 9999
quarter_bound m p d None q fits = omega arith
quarter_bound m p d (Some values) q fits = cond_both (ltb q 96) (Some (get_or values q 0)) None (λ x. unwrap_or x 0 ≤ 9999) (λ _. fits.2.capped q) (λ _. omega arith)

-- percentages of values that are at most 9,999
module _ (m : Meaning) (lawful : Lawful m) (d q : ℕ) where
  load_bound : (shares : List Share) → sum_by (λ s. s.percent * value_of m s.profile d q) shares ≤ 9999 * percent_sum shares
  load_bound [] = omega arith
  load_bound (s ∷ shares) =
      let w = s.percent in
      let v = value_of m s.profile d q in
      let same : w ≤ w = omega arith in
      let small : v ≤ 9999 = quarter_bound m s.profile d (m.known s.profile d) q (lawful.known_fits s.profile d) in
      omega (arith, mul-le w v w 9999 same small, sum_by-cons (λ (t : Share). t.percent * value_of m t.profile d q) s shares, sum_by-cons (λ (t : Share). t.percent) s shares, load_bound shares)

  pub load_small : (mix : Mix) → load m mix d q ≤ 999900
  load_small mix = omega (arith, mix.whole, load_bound (shares_of mix))
