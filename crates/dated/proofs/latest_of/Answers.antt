use Rattle.std.proofs.Common.{◌≡◌, rules, subst, sym, tests, ◌∙◌}
use Rattle.std.proofs.lemmas.Iterator.{YieldsList-from_slice}
use Rattle.dated.specs.Dates.{latest, Latest}
use Rattle.dated.proofs.LookUps.{latest_from_yields_List, latest_means}
use Rattle.dated.proofs.latest_of.Goals as goal

pub returns : goal.returns
returns g c =
    let own = g.T.Dated.owner_of in
    let date = g.T.Dated.date_of in
    let who = c.args.owner in
    let x = c.args.date in
    let es = c.args.table.now in
    let v : c.copied.result ≡ latest own date who x es = c.copied.ensures
    ∙ latest_from_yields_List own date who x _ _ (λ a z b q k. search (rules, tests)) _ c.fold.result es c.fold.ensures.ran (YieldsList-from_slice es cc) in
    record { value = v; means = subst (Latest own date who x es) (sym v) (latest_means own date who x es) }
