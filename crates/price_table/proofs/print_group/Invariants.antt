use Rattle.std.proofs.Common.{◌≤◌}
use Rattle.price_table.proofs.print_group.Given as goal

abbrev pub invariant-loop-k : goal.invariant-loop-k
invariant-loop-k g l = l.agreeing ≤ l.k
