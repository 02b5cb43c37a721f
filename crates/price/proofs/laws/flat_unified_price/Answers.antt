use Rattle.price.specs.Answers.{told}
use Rattle.price.proofs.AverageLaws.{flat_rounds}
use Rattle.price.proofs.laws.flat_unified_price.Goals as goal

pub returns-clause-rounds : goal.returns-clause-rounds
returns-clause-rounds g c = flat_rounds c.args.feed.now.price c.args.month (told c.unified_price.result) c.unified_price.ensures.average
