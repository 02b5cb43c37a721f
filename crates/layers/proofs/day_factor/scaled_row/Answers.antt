use Rattle.std.proofs.Common.{◌≡◌, ℕ, zero, suc, ◌+◌, ◌<◌, ◌≤◌, List, length, map, get_or, sym, refl, ap, ◌∙◌, subst, ⊎_elim, arith, rules}
use Rattle.std.proofs.lemmas.Bool.{cases_eq}
use Rattle.std.proofs.lemmas.List.{length-map, get_or-map, same_lists}
use Rattle.std.specs.Array.{IsFromFnResultFrom}
use denote.Param.Members.{Mut, Called}
use Rattle.layers.specs.DayFactors.{scaled, scaled_row}
use Rattle.layers.proofs.day_factor.scaled_row.Goals as goal

-- what `from_fn` gives at each place, by a closure that no call changes
module _ {F B : Type 0} (g : Mut F (ℕ × Unit {0}) B) (v : ℕ → B) (f : F) (call : (i : ℕ) (y : B) (q : F) → Called g f (i, tt) y q → (y ≡ v i) × (q ≡ f)) (ys : List B) where
  each_made : (p : F) (i n : ℕ) → p ≡ f → IsFromFnResultFrom g p ys i n → (k : ℕ) (e : B) → i ≤ k → k < i + n → get_or ys k e ≡ v k
  each_made p i zero same made k e low high = absurd (omega arith)
  each_made p i (suc n) same made k e low high =
      let C : F → Type 0 = λ w. Called g w (i, tt) made.1 made.0 in
      let called = call i made.1 made.0 (subst C same made.3) in
      ⊎_elim
      (λ here. ap (λ j. get_or ys j e) here ∙ made.2.1 e ∙ called.0 ∙ ap v (sym here))
      (λ other. each_made made.0 (i + 1) n called.1 made.4 k e (omega arith) (omega arith))
      (cases_eq k i)

pub returns : goal.returns
returns c =
    let values = c.values-values.result in
    let v = scaled c.args.factor in
    let full : length values ≡ 96 = ap length c.values-values.ensures ∙ c.args.row.full in
    let made = c.from_fn.ensures.items in
    same_lists c.from_fn.result (map v values) (omega (arith, made.long, length-map values v))
    (λ k d short.
    let below : k < 96 = omega (arith, made.long) in
    each_made _ (λ i. v (get_or values i 0)) _ (λ i y q h. search rules) c.from_fn.result _ 0 96 refl made.each k d (omega arith) below
    ∙ sym (get_or-map v values k 0 d (omega arith)))
    ∙ ap (scaled_row c.args.factor) c.values-values.ensures
