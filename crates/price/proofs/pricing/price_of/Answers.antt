use Rattle.std.proofs.Common.{◌≡◌, Err, ap, ◌∙◌, w64, SFits, rules}
use Rattle.std.proofs.lemmas.Int.{to_z-of_z}
use Rattle.price.specs.Rounding.{priced}
use Rattle.price.specs.Answers.{told}
use Rattle.price.proofs.PriceSizes.{with_totals, answered}
use Rattle.price.proofs.pricing.price_of.Goals as goal

pub returns-in_err-price : goal.returns-in_err-price
returns-in_err-price c =
    let cost = c.args.totals.cost in
    let energy = c.args.totals.energy in
    let fits : SFits w64 cost = search rules in
    let passed : told c.from_residual.result ≡ Err c.in_err-price.field-0.0 = search rules in
    passed ∙ ap (with_totals cost energy) (c.in_err-price.ensures ∙ ap (λ z. priced z energy) (to_z-of_z w64 cost fits)) ∙ answered cost energy c.args.totals.within
