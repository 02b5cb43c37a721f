-- No price of a cost within its energy passes 30,000 hundredths. Assumes nothing.
use Rattle.std.proofs.Common.{◌≡◌, ℕ, suc, ◌+◌, ◌-◌, ◌*◌, ◌/◌, ◌<◌, ◌≤◌, false, eqb, ltb, leb, ℤ, pos, negsuc, nat_abs, Ok, Err, Result, sym, ap, ◌∙◌, ⊎_elim, arith}
use Rattle.std.proofs.lemmas.Nat.{div_below}
use Rattle.std.proofs.lemmas.Bool.Decides.{nat_tests}
use Rattle.std.proofs.lemmas.Bool.{cond_both, cond-true, cond-false, ltb-true, cases_Bool, le-leb}
use Rattle.std.specs.Result.{result_map_both}
use Rattle.units.specs.declared.Refusal.{Refusal}
use Rattle.units.specs.declared.Refusal.TheVariants.{OutOfRange, NoEnergy}
use Rattle.units.specs.Energy.{floor_div}
use Rattle.price.specs.Rounding.{unified, held, priced}
use Rattle.price.specs.Answers.{PriceWithTotals, total_answer}

pub some_energy : (e : ℕ) → eqb e 0 ≡ false → 0 < e
some_energy e none = grind (arith, nat_tests)

above_size : (a e : ℕ) → 0 < e → a ≤ 300005 * e → a / (10 * e) ≤ 30000
above_size a e h k =
    let some : 0 < 10 * e = omega arith in
    let few : a < 30001 * (10 * e) = omega arith in
    omega (arith, div_below a (10 * e) 30001 some few)

below_size : (a e : ℕ) → 0 < e → a + 1 ≤ 300000 * e → a / (10 * e) + 1 ≤ 30000
below_size a e h k =
    let some : 0 < 10 * e = omega arith in
    let few : a < 30000 * (10 * e) = omega arith in
    omega (arith, div_below a (10 * e) 30000 some few)

unified_size : (c : ℤ) (e : ℕ) → 0 < e → nat_abs c ≤ 300000 * e → nat_abs (unified c e) ≤ 30000
unified_size (pos c) e h k = above_size (c + 5 * e) e h (omega arith)
unified_size (negsuc c) e h k =
    cond_both (ltb (5 * e) (suc c)) (negsuc (suc c - suc (5 * e))) (pos (5 * e - suc c)) (λ z. nat_abs (floor_div z (10 * e)) ≤ 30000)
    (λ t. omega (arith, below_size (suc c - suc (5 * e)) e h (omega (arith, ltb-true (5 * e) (suc c) t))))
    (λ t. above_size (5 * e - suc c) e h (omega arith))

-- so it is never refused for its size
held_price : (c : ℤ) (e : ℕ) → 0 < e → nat_abs c ≤ 300000 * e → held (unified c e) ≡ Ok (unified c e)
held_price c e h k = cond-true (leb (nat_abs (unified c e)) 30000) (Ok (unified c e)) (Err OutOfRange) (le-leb (nat_abs (unified c e)) 30000 (unified_size c e h k))

-- an answer on the price alone, with the cost and the energy
abbrev pub with_totals : ℤ → ℕ → Result ℤ Refusal → Result PriceWithTotals Refusal
with_totals c e r = result_map_both (λ p. record { price = p; cost = c; energy = e }) (λ x. x) r

pub answered : (c : ℤ) (e : ℕ) → nat_abs c ≤ 300000 * e → with_totals c e (priced c e) ≡ total_answer c e
answered c e h =
    let whole = Ok (record { price = unified c e; cost = c; energy = e }) in
    ⊎_elim
    (λ t. ap (with_totals c e) (cond-true (eqb e 0) (Err NoEnergy) (held (unified c e)) t) ∙ sym (cond-true (eqb e 0) (Err NoEnergy) whole t))
    (λ f. ap (with_totals c e) (cond-false (eqb e 0) (Err NoEnergy) (held (unified c e)) f ∙ held_price c e (some_energy e f) h) ∙ sym (cond-false (eqb e 0) (Err NoEnergy) whole f))
    (cases_Bool (eqb e 0))
