use Rattle.std.proofs.Common.{◌≤◌, sym, ap, ◌∙◌, arith}
use Rattle.std.proofs.lemmas.Option.{cond_some}
use Rattle.shelf.proofs.DayRowFacts.{row_made}
use Rattle.shelf.specs.DayRows.{values_of}
use Rattle.kinds.specs.FlatRows.{flat_capped}
use Rattle.kinds.proofs.flat.FlatShelf.row.Goals as goal

pub returns : goal.returns
returns c =
    let here = cond_some _ _ _ (sym c.in_ok-value.ensures) in
    let small : c.in_ok-value.value ≤ 9999 = omega (arith, here.1) in
    rw (here.0, here.1) (ap values_of c.ok.ensures.value ∙ row_made _ c.new.result c.new.ensures (flat_capped _ small))
