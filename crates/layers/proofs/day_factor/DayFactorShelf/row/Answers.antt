use Rattle.std.proofs.Common.{◌≡◌, ℕ, List, Some, Option, sym, ap, ◌∙◌, subst, slice_index, arith}
use Rattle.std.proofs.lemmas.Bool.Decides.{nat_tests}
use Rattle.calendar.specs.Dates.{day_of_year, on_days}
use Rattle.shelf.proofs.DayRowFacts.{row_made}
use Rattle.shelf.specs.DayRows.{values_of}
use Rattle.shelf.specs.Meaning.{Capped}
use Rattle.layers.specs.DayFactors.{scaled_row, scale_at}
use Rattle.layers.specs.Scaling.{scaled_capped}
use Rattle.layers.proofs.day_factor.DayFactorShelf.row.Goals as goal

-- a day of the named profile is scaled by the day's factor
scale_named : (named : ℕ) (factors : List ℕ) (p d f : ℕ) (values : List ℕ) (row : Option (List ℕ)) → p ≡ named → Some f ≡ on_days d (slice_index factors (day_of_year d)) → Some values ≡ row → Some (scaled_row f values) ≡ scale_at named factors p d row
scale_named named factors p d f values row same factor known = grind (arith, nat_tests)

pub returns : goal.returns
returns g c =
    let s = c.args.self.now in
    let m = g.A.Shelf.meaning s.below in
    let f = c.in_ok-factor.factor in
    let values = c.in_ok-row.row.values in
    let P : List ℕ → Type 0 = λ x. Capped x in
    let capped = subst P (sym c.scaled_row.ensures) (scaled_capped f values) in
    ap values_of c.ok.ensures.value
    ∙ row_made c.scaled_row.result c.new.result c.new.ensures capped
    ∙ ap Some c.scaled_row.ensures
    ∙ scale_named s.profile s.factors c.args.profile c.args.day f values (m.known c.args.profile c.args.day) c.if-profile-self.false c.in_ok-factor.ensures c.in_ok-row.ensures
