use Rattle.std.proofs.Common.{◌≡◌, ◌+◌, ◌-◌, ◌≤◌, max, pos, Some}
use Rattle.std.specs.Option.{option_map}
use Rattle.shelf.specs.Targets.{sum_over, balanced}
use Rattle.shelf.proofs.target.stretch_target.Given as goal

abbrev pub invariant-loop-day : goal.invariant-loop-day
invariant-loop-day g l = record {
  so_far : Some l.target.count ≡ option_map pos (sum_over (balanced (g.S.Shelf.meaning l.shelf) l.profile l.forecast) l.from (l.day - l.from));
  within : l.day ≤ max l.from (l.to + 1);
}
