-- What days that are all alike add up to. Assumes nothing.
use Rattle.std.proofs.Common.{◌≡◌, ℕ, ◌+◌, ◌*◌, ◌^◌, ◌<◌, ◌≤◌, ℤ, pos, ◌+ℤ◌, ap, ◌∙◌, add-mul, one-mul, arith}
use Rattle.std.proofs.lemmas.Nat.{mul-le}

-- one day more
pub day_more : (t d : ℤ) (i g : ℕ) → t ≡ pos (i * g) → d ≡ pos g → t +ℤ d ≡ pos ((i + 1) * g)
day_more t d i g e h =
    let more : i * g + g ≡ (i + 1) * g = omega (arith, add-mul i 1 g, one-mul g) in
    ap (λ z. z +ℤ d) e ∙ ap (λ z. pos (i * g) +ℤ z) h ∙ ap pos more

-- no number of days and no forecast passes what grains hold
pub days_held : (i f s : ℕ) → i ≤ 2 ^ 32 → f < 2 ^ 32 → s < 2 ^ 32 → i * (f * s) ≤ 10 ^ 30
days_held i f s h k l =
    let a = mul-le f s (2 ^ 32) (2 ^ 32) (omega arith) (omega arith) in
    omega (arith, mul-le i (f * s) (2 ^ 32) (2 ^ 32 * 2 ^ 32) h a)
