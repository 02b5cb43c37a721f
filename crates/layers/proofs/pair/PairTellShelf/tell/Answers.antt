use Rattle.std.proofs.Common.{◌≡◌, ℕ, ℤ, Some, sym, ap, ◌∙◌, arith, w32, SFits, rules}
use Rattle.std.proofs.lemmas.Bool.Decides.{nat_tests}
use Rattle.std.proofs.lemmas.Int.{to_z-of_z}
use Rattle.shelf.specs.Meaning.{Meaning, tell_after}
use Rattle.layers.specs.declared.pair.Half.TheVariants.{First, Second}
use Rattle.layers.specs.Pairs.{joined, pair_meaning}
use Rattle.layers.proofs.pair.PairTellShelf.tell.Goals as goal

-- a tell of the second shelf is a tell of the pair
after_second : (a b : Meaning) (p own d : ℕ) (n : ℤ) → Some (Second own) ≡ joined a.count (λ q. Some (First q)) (λ q. Some (Second q)) p → pair_meaning a (tell_after b own d n) ≡ tell_after (pair_meaning a b) p d n
after_second a b p own d n at = grind (arith, nat_tests)

pub returns-in-Second-clause-after : goal.returns-in-Second-clause-after
returns-in-Second-clause-after g c =
    let a = g.A.Shelf.meaning c.args.self.now.first in
    let b = g.B.Shelf.meaning c.args.self.now.second in
    let t = c.args.tell in
    let at = ap Some (sym c.in-Second.is) ∙ sym c.in_ok-profile.ensures.ok_part ∙ c.half.ensures in
    let fits : SFits w32 t.number = search rules in
    ap (pair_meaning a) (c.tell-in-Second.ensures.after ∙ ap (tell_after b c.in-Second.profile t.day) (to_z-of_z w32 t.number fits))
    ∙ after_second a b t.profile c.in-Second.profile t.day t.number at
