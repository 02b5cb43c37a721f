-- What the making of a thing under a rule answers.
--     Makes rule is r      r is Ok of what was asked for where the rule holds, and else the refusal RuleBroken
--     MakesIn rule is r    the same where memory is needed: where the rule holds, r may also be NoMemory
-- Assumes nothing.
use Rattle.std.specs.Prelude.{◌≡◌, Ok, Err, Result}
use Rattle.units.specs.declared.refusal.Refusal.{Refusal}
use Rattle.units.specs.declared.refusal.Refusal.TheVariants.{RuleBroken}
use Rattle.units.specs.declared.make_error.MakeError.{MakeError}
use Rattle.units.specs.declared.make_error.MakeError.TheVariants.{Refused, NoMemory}

abbrev pub Makes : {X : Type 0} → Type 0 → (X → Type 0) → Result X Refusal → Type 0
Makes rule is (Ok x) = rule × is x
Makes rule is (Err e) = (rule → ⊥) × (e ≡ RuleBroken)

abbrev pub MakesIn : {X : Type 0} → Type 0 → (X → Type 0) → Result X MakeError → Type 0
MakesIn rule is (Ok x) = rule × is x
MakesIn rule is (Err (Refused e)) = (rule → ⊥) × (e ≡ RuleBroken)
MakesIn rule is (Err NoMemory) = rule
