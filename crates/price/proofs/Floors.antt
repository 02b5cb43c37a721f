-- Quotients of signed numbers, rounded down. Assumes nothing.
use Rattle.std.proofs.Common.{◌≡◌, ℕ, suc, ◌+◌, ◌-◌, ◌*◌, ◌/◌, ◌<◌, ◌≤◌, ℤ, pos, negsuc, ◌+ℤ◌, ◌*ℤ◌, neg_ℤ, ◌≤ℤ◌, ◌<ℤ◌, sym, ap, ◌∙◌, mod-lt, mul_comm, add-mul, div-add-mod', mul-add, add-one, arith}
use native.Mathlib.Nat.{mul-div-mul_left, div-div-eq-div-mul}
use Rattle.std.proofs.lemmas.Nat.{div-mul-add, div_below}
use Rattle.std.proofs.lemmas.Int.{ints}
use Rattle.units.specs.Energy.{floor_div}

div_mono : (a b n : ℕ) → 0 < n → a ≤ b → a / n ≤ b / n
div_mono a b n some h =
    let few : a < (b / n + 1) * n = omega (arith, add-mul (b / n) 1 n, div-add-mod' b n, mod-lt b some) in
    omega (arith, div_below a n (b / n + 1) some few)

-- a larger number has no smaller quotient
pub floor_mono : (y z : ℤ) (n : ℕ) → 0 < n → y ≤ℤ z → floor_div y n ≤ℤ floor_div z n
floor_mono (pos a) (pos b) n some h = omega (arith, ints, div_mono a b n some (omega (arith, ints)))
floor_mono (pos a) (negsuc b) n some h = absurd (omega (arith, ints))
floor_mono (negsuc a) (pos b) n some h = omega (arith, ints)
floor_mono (negsuc a) (negsuc b) n some h = omega (arith, ints, div_mono b a n some (omega (arith, ints)))

-- a number lies less than ten above ten times its tenth
pub tenth_near : (z : ℤ) → ((pos 10 *ℤ floor_div z 10) ≤ℤ z) × (z <ℤ ((pos 10 *ℤ floor_div z 10) +ℤ pos 10))
tenth_near (pos a) = (omega (arith, ints), omega (arith, ints))
tenth_near (negsuc a) = (omega (arith, ints), omega (arith, ints))

-- and nothing else is its tenth
pub tenth_is : (z x : ℤ) → (pos 10 *ℤ x) ≤ℤ z → z <ℤ ((pos 10 *ℤ x) +ℤ pos 10) → x ≡ floor_div z 10
tenth_is z x low high = let near = tenth_near z in omega (arith, ints)

-- a factor of both sides falls away, below zero too
pub shortened : (e : ℕ) (z : ℤ) → 0 < e → floor_div (pos e *ℤ z) (10 * e) ≡ floor_div z 10
shortened e (pos k) h = ap pos (ap (λ d. e * k / d) (mul_comm 10 e) ∙ mul-div-mul_left k 10 h)
shortened e (negsuc k) h =
    let n : ℕ = k * e + (e - 1) in
    let is : e * suc k ≡ suc n = omega (arith, mul-add e k 1, mul_comm e k, ap (λ j. e * j) (add-one k)) in
    let rest : e - 1 < e = omega arith in
    ap (λ j. floor_div (neg_ℤ (pos j)) (10 * e)) is
    ∙ ap negsuc (ap (λ d. n / d) (mul_comm 10 e) ∙ sym (div-div-eq-div-mul n e 10) ∙ ap (λ j. j / 10) (div-mul-add k e (e - 1) rest))
