-- Bills made one after the other are rounded as one. Assumes nothing.
use Rattle.std.proofs.Common.{◌≡◌, List, [], ◌∷◌, ℤ, pos, ◌+ℤ◌, ◌-ℤ◌, ap, arith}
use Rattle.std.proofs.lemmas.Int.{ints}
use Rattle.units.specs.Energy.{rounded, billed_in_turn, total, RoundedOnce}

-- the roundings in between cancel out
from_before : (before : ℤ) (ds : List ℤ) → billed_in_turn before ds ≡ rounded (before +ℤ total ds) -ℤ rounded before
from_before before [] =
    let same : before +ℤ pos 0 ≡ before = omega (arith, ints) in
    let e = ap rounded same in
    omega (arith, ints, e)
from_before before (d ∷ ds) =
    let next = from_before (before +ℤ d) ds in
    let same : (before +ℤ d) +ℤ total ds ≡ before +ℤ (d +ℤ total ds) = omega (arith, ints) in
    let e = ap rounded same in
    omega (arith, ints, next, e)

pub rounded_once : RoundedOnce
rounded_once ds =
    let all = from_before (pos 0) ds in
    let same : pos 0 +ℤ total ds ≡ total ds = omega (arith, ints) in
    let e = ap rounded same in
    omega (arith, ints, all, e)
