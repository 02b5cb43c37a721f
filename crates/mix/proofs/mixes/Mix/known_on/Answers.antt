use Rattle.std.proofs.Common.{rules, tests}
use Rattle.std.proofs.lemmas.Iterator.{YieldsList-from_slice}
use Rattle.std.proofs.lemmas.Iterator.Search.{all_from_yields_List}
use Rattle.mix.specs.Mixes.{shares_of}
use Rattle.mix.proofs.LoadLaws.{known_quarter}
use Rattle.mix.proofs.mixes.Mix.known_on.Goals as goal

pub returns : goal.returns
returns g c =
    all_from_yields_List _ _ _ _ c.all.ensures.ran
    (YieldsList-from_slice (shares_of c.args.self.now) (cc))
    (λ x b q k. search (rules, tests, known_quarter))
