use Rattle.std.proofs.Common.{ap, ◌∙◌, sym, subst, take_all}
use Rattle.shelf.specs.Meaning.{Meaning}
use Rattle.shelf.specs.Tells.{tells_after, Keeps}
use Rattle.shelf.proofs.Keeping.{tells_keep, targets_keep}
use Rattle.shelf.proofs.telling.tell_all.Goals as goal

pub returns : goal.returns
returns g c =
    let m = g.S.Shelf.meaning c.args.shelf.now in
    let ts = c.args.tells.now in
    let after = c.loop-tell.invariant ∙ ap (tells_after m) (take_all _ _ c.loop-tell-test.false) in
    let P : Meaning → Type 0 = λ x. Keeps m x in
    let keeps = subst P (sym after) (tells_keep m ts) in
    record { after = after; keeps = keeps; targets = targets_keep m _ keeps }
