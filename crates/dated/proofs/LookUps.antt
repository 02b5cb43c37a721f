-- Laws of the dated look-up. Assumes nothing.
use Rattle.std.proofs.Common.{◌≡◌, ℕ, ◌≤◌, ◌<◌, ◌+◌, Bool, true, false, cond, ◌&&◌, eqb, leb, ◌⊎◌, List, [], ◌∷◌, ◌++◌, map, Some, None, fold}
use Rattle.std.proofs.Common.{Option, Bor, refl, sym, ap, subst, ◌∙◌, inl, inr, ⊎_elim, arith}
use denote.Param.Members.{Mut}
use Rattle.std.specs.Option.{option_map, option_copied}
use Rattle.std.specs.List.{All, Contains}
use Rattle.std.specs.Fn.{Called}
use Rattle.std.specs.Iterator.{FoldsItems}
use Rattle.std.proofs.lemmas.Bool.{eqb-true, leb-true}
use Rattle.std.proofs.lemmas.Bool.Decides.{nat_tests}
use Rattle.std.proofs.lemmas.Fn.{fold_over}
use Rattle.std.proofs.lemmas.Iterator.{YieldsList}
use Rattle.std.proofs.lemmas.List.Sums.{fold_push}
use Rattle.std.proofs.lemmas.List.Elements.{All-nil, All-cons, Contains-append_right}
use Rattle.dated.specs.Dates.{no_earlier, later, latest, Latest, nearer, Same}

-- ---- the fold that `latest_of` runs over references
module _ {X F : Type 0} (own date : X → ℕ) (who x : ℕ) (g : Mut F (Option (Bor X) × (Bor X × Unit {0})) (Option (Bor X))) (f : F)
    (gives : (a : Option (Bor X)) (z : Bor X) (b : Option (Bor X)) (q : F) → Called g f (a, (z, tt)) b q
    → (option_copied b ≡ later own date who x (option_copied a) z.now) × (q ≡ f)) where
  pub latest_from_yields_List : {S : Type 0} {steps : S → Option (Bor X) → S → Type 0} (s : S) (r : Option (Bor X)) (es : List X)
      → FoldsItems steps g s f None r → YieldsList steps (λ y. y.now) s es → option_copied r ≡ latest own date who x es
  unfolding latest
  latest_from_yields_List {steps = steps} s r es h y =
      fold_over steps (λ z. z.now) g (λ ys a. option_copied a ≡ fold (later own date who x) None ys) f
      (λ ys a z b q k c. let m = gives a z b q c in (m.0 ∙ ap (λ w. later own date who x w z.now) k ∙ sym (fold_push (later own date who x) None ys z.now), m.1))
      s es None r y.runs refl h

module _ {X : Type 0} (own date : X → ℕ) (who x : ℕ) where
  -- ---- what the look-up means
  -- no record that fits is dated after the one found
  abbrev rank : Option X → ℕ
  rank None = 0
  rank (Some r) = date r + 1

  stays : (best : Option X) (es : List X) → rank best ≤ rank (fold (later own date who x) best es)
  stays best [] = omega arith
  stays None (e ∷ es) = omega arith
  stays (Some b) (e ∷ es) =
      let k : date b + 1 ≤ rank (later own date who x (Some b) e) = grind (arith, nat_tests) in
      omega (arith, stays (later own date who x (Some b) e) es)

  reaches : (best : Option X) (e : X) → own e ≡ who → date e ≤ x → date e < rank (later own date who x best e)
  reaches None e o l = grind (arith, nat_tests)
  reaches (Some b) e o l = grind (arith, nat_tests)

  none_past : (best : Option X) (es : List X) → All (λ e. own e ≡ who → date e ≤ x → date e < rank (fold (later own date who x) best es)) es
  none_past best [] = All-nil (λ e. own e ≡ who → date e ≤ x → date e < rank best)
  none_past best (e ∷ es) =
      let b = later own date who x best e in
      All-cons (λ d. own d ≡ who → date d ≤ x → date d < rank (fold (later own date who x) b es)) e es
      (λ o l. omega (arith, reaches best e o l, stays b es))
      (none_past b es)

  bounded : (es : List X) (r : Option X) → r ≡ latest own date who x es → All (λ e. own e ≡ who → date e ≤ x → date e < rank r) es
  unfolding latest
  bounded es r v = subst (λ w. All (λ e. own e ≡ who → date e ≤ x → date e < rank w) es) (sym v) (none_past None es)

  pub none_fits : (es : List X) → None ≡ latest own date who x es → All (λ e. own e ≡ who → x < date e) es
  none_fits es v = λ k d i o. let b = bounded es None v k d i o in grind arith

  pub none_later : (es : List X) (r : X) → Some r ≡ latest own date who x es → All (λ e. own e ≡ who → date e ≤ x → date e ≤ date r) es
  none_later es r v = λ k d i o l. let b = bounded es (Some r) v k d i o l in omega arith

  -- what the look-up finds is in the table, the owner's and not after the date
  found : (best : Option X) (es : List X) (r : X) → Some r ≡ fold (later own date who x) best es → (Some r ≡ best) ⊎ (Contains es r × (own r ≡ who) × (date r ≤ x))
  found best [] r v = inl v
  found best (e ∷ es) r v =
      ⊎_elim (λ k. here (eqb (own e) who) refl (leb (date e) x) refl (no_earlier date best e) k)
      (λ m. inr (Contains-append_right (e ∷ []) es r m.0, m.1, m.2))
      (found (later own date who x best e) es r v)
    where
      here : (p : Bool) → eqb (own e) who ≡ p → (q : Bool) → leb (date e) x ≡ q → (n : Bool) → Some r ≡ cond (p && (q && n)) (Some e) best
          → (Some r ≡ best) ⊎ (Contains (e ∷ es) r × (own r ≡ who) × (date r ≤ x))
      here true a true b true k =
          let same : r ≡ e = cc in
          inr ((0, omega arith, sym same), ap own same ∙ eqb-true (own e) who a, subst (λ w. date w ≤ x) (sym same) (leb-true (date e) x b))
      here true a true b false k = inl k
      here true a false b n k = inl k
      here false a q b n k = inl k

  one_found : (es : List X) (r : X) → Some r ≡ latest own date who x es → Contains es r × (own r ≡ who) × (date r ≤ x)
  unfolding latest
  one_found es r v = ⊎_elim (λ k. let z : ◌≡◌ {A = ℕ} 0 1 = cc in absurd (omega arith)) (λ m. m) (found None es r v)

  pub latest_means : (es : List X) → Latest own date who x es (latest own date who x es)
  latest_means es = which (latest own date who x es) refl
    where
      which : (o : Option X) → o ≡ latest own date who x es → Latest own date who x es o
      which None v = none_fits es v
      which (Some r) v =
          let m = one_found es r v in
          record { one = m.0; owned = m.1; not_after = m.2; none_later = none_later es r v }

  -- a later record, or one of another's, does not change the look-up
  later_not : (best : Option X) (e : X) → (eqb (own e) who ≡ false) ⊎ (x < date e) → later own date who x best e ≡ best
  later_not best e h = grind (arith, nat_tests)

  pub latest_push : (es : List X) (e : X) → (eqb (own e) who ≡ false) ⊎ (x < date e) → latest own date who x (es ++ (e ∷ [])) ≡ latest own date who x es
  unfolding latest
  latest_push es e h = fold_push (later own date who x) None es e ∙ later_not _ e h

  -- ---- the next date
  pub nearest_past : (n : ℕ) (es : List X) → x < n → x < fold (nearer own date who x) n es
  nearest_past n [] h = h
  nearest_past n (e ∷ es) h = nearest_past (nearer own date who x n e) es (grind (arith, nat_tests))

  nearest-le : (n : ℕ) (es : List X) → fold (nearer own date who x) n es ≤ n
  nearest-le n [] = omega arith
  nearest-le n (e ∷ es) =
      let k : nearer own date who x n e ≤ n = grind (arith, nat_tests) in
      omega (arith, nearest-le (nearer own date who x n e) es)

  unchanged : (y n : ℕ) (best : Option X) (es : List X) → x ≤ y → y < fold (nearer own date who x) n es
      → fold (later own date who y) best es ≡ fold (later own date who x) best es
  unchanged y n best [] a b = refl
  unchanged y n best (e ∷ es) a b =
      let k : y < nearer own date who x n e = omega (arith, nearest-le (nearer own date who x n e) es) in
      let j : later own date who y best e ≡ later own date who x best e = grind (arith, nat_tests) in
      ap (λ w. fold (later own date who y) w es) j ∙ unchanged y (nearer own date who x n e) (later own date who x best e) es a b

  pub nearest_same : (n : ℕ) (es : List X) → Same own date who es x (fold (nearer own date who x) n es)
  unfolding latest
  nearest_same n es y a b = unchanged y n None es a b

-- of records seen through p
module _ {X Y : Type 0} (p : X → Y) (own date : Y → ℕ) (who x : ℕ) where
  later_map : (b : Option X) (e : X) → option_map p (later (λ r. own (p r)) (λ r. date (p r)) who x b e) ≡ later own date who x (option_map p b) (p e)
  later_map None e = grind (arith, nat_tests)
  later_map (Some b) e = grind (arith, nat_tests)

  fold_map : (b : Option X) (es : List X) → option_map p (fold (later (λ r. own (p r)) (λ r. date (p r)) who x) b es) ≡ fold (later own date who x) (option_map p b) (map p es)
  fold_map b [] = refl
  fold_map b (e ∷ es) = fold_map (later (λ r. own (p r)) (λ r. date (p r)) who x b e) es ∙ ap (λ o. fold (later own date who x) o (map p es)) (later_map b e)

  pub latest_map : (es : List X) → option_map p (latest (λ r. own (p r)) (λ r. date (p r)) who x es) ≡ latest own date who x (map p es)
  unfolding latest
  latest_map es = fold_map None es
