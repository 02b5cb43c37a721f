use Rattle.units.proofs.Rounds.{rounded_once}
use Rattle.units.proofs.energy.rounded_once_stands.Goals as goal

pub returns : goal.returns
returns c = rounded_once
