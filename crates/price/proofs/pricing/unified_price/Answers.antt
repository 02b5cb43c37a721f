use Rattle.std.proofs.Common.{◌≡◌, sym, subst, rules}
use Rattle.price.specs.Answers.{told, unified_answer, Averages}
use Rattle.price.proofs.AverageLaws.{averages}
use Rattle.price.proofs.pricing.unified_price.Goals as goal

pub returns-clause-average : goal.returns-clause-average
returns-clause-average g c =
    let m = g.S.Shelf.meaning c.args.shelf.now in
    let prices = g.F.Feed.prices c.args.feed.now in
    let mix = c.args.mix.now in
    let answer : told c.price.result ≡ unified_answer m prices mix c.args.month = search rules in
    subst (Averages prices c.args.month) (sym answer) (averages m prices mix c.args.month)
