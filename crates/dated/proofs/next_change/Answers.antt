use Rattle.std.proofs.Common.{◌≡◌, ◌<◌, fold, rules, subst, sym}
use Rattle.dated.specs.Dates.{nearer, Same}
use Rattle.dated.proofs.LookUps.{nearest_past, nearest_same}
use Rattle.dated.proofs.next_change.Goals as goal

pub returns : goal.returns
returns g c =
    let own = g.T.Dated.owner_of in
    let date = g.T.Dated.date_of in
    let who = c.args.owner in
    let x = c.args.date in
    let es = c.args.table.now in
    let v : c.fold.result ≡ fold (nearer own date who x) 4294967295 es = search rules in
    record {
      value = v;
      past = λ h. subst (λ n. x < n) (sym v) (nearest_past own date who x 4294967295 es h);
      same = subst (Same own date who es x) (sym v) (nearest_same own date who x 4294967295 es);
    }
