use Rattle.std.proofs.Common.{◌≡◌, ◌*◌, rules, arith}
use Rattle.std.proofs.lemmas.Iterator.{YieldsList-from_slice, YieldsList-from_map}
use Rattle.std.proofs.lemmas.Iterator.Consumers.{sum_by_from_yields_List, fits_by_from_yields_list}
use Rattle.mix.specs.declared.share.Share.{Share}
use Rattle.mix.specs.Loads.{value_of, load}
use Rattle.mix.specs.Mixes.{shares_of}
use Rattle.mix.proofs.LoadLaws.{load_small}
use Rattle.mix.proofs.mixes.Mix.load.Goals as goal

pub sum-requires-clause-fits : goal.sum-requires-clause-fits
sum-requires-clause-fits g c =
    fits_by_from_yields_list (λ (s : Share). s.percent * value_of (g.S.Shelf.meaning c.args.shelf.now) s.profile c.args.day c.args.quarter) (shares_of c.args.self.now) c.map.result _
    (YieldsList-from_map _ _ (YieldsList-from_slice (shares_of c.args.self.now) (cc)) c.map.ensures.closure (λ x r q k. search rules))
    (omega (arith, load_small (g.S.Shelf.meaning c.args.shelf.now) (g.met.S.Shelf.lawful c.args.shelf.now) c.args.day c.args.quarter c.args.self.now))

pub returns : goal.returns
returns g c =
    let value : c.sum.result ≡ load (g.S.Shelf.meaning c.args.shelf.now) c.args.self.now c.args.day c.args.quarter =
    sum_by_from_yields_List _ (shares_of c.args.self.now) c.map.result c.sum.result c.sum.ensures.ran
    (YieldsList-from_map _ _ (YieldsList-from_slice (shares_of c.args.self.now) (cc)) c.map.ensures.closure (λ x r q k. search rules))
    in
    record { value = value; bound = omega (arith, value, load_small (g.S.Shelf.meaning c.args.shelf.now) (g.met.S.Shelf.lawful c.args.shelf.now) c.args.day c.args.quarter c.args.self.now) }
