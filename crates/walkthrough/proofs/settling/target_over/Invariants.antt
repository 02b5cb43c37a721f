use Rattle.std.proofs.Common.{◌≡◌, ◌*◌, pos}
use Rattle.walkthrough.proofs.settling.target_over.Given as goal

abbrev pub invariant-loop-day : goal.invariant-loop-day
invariant-loop-day l = l.target.count ≡ pos (l._day * (l.forecast * l.day_sum))
