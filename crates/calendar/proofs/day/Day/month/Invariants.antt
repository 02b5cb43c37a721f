use Rattle.std.proofs.Common.{◌≤◌}
use Rattle.calendar.specs.Dates.{month_start}
use Rattle.calendar.proofs.day.Day.month.Given as goal

abbrev pub invariant-loop-number : goal.invariant-loop-number
invariant-loop-number l = month_start l.number ≤ l.self.number
