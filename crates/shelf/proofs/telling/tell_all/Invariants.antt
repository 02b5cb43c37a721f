use Rattle.std.proofs.Common.{◌≡◌, take}
use Rattle.shelf.specs.Tells.{tells_after}
use Rattle.shelf.proofs.telling.tell_all.Given as goal

abbrev pub invariant-loop-tell : goal.invariant-loop-tell
invariant-loop-tell g l = g.S.Shelf.meaning l.shelf ≡ tells_after (g.S.Shelf.meaning l.initial.shelf) (take l.tell-index l.tells)
