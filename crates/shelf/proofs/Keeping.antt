-- What tells leave as it is. Assumes nothing.
use Rattle.std.proofs.Common.{◌≡◌, ℕ, zero, suc, ◌+◌, ◌-◌, ◌*◌, Bool, true, false, cond, leb, List, [], ◌∷◌, ℤ, pos, Some, None, Ok, Err, Option, sym, refl, ap, ◌∙◌, arith}
use Rattle.std.proofs.lemmas.Bool.Decides.{nat_tests}
use Rattle.std.proofs.lemmas.Option.{none-some}
use Rattle.std.specs.Option.{option_map, ok_or}
use Rattle.units.specs.declared.refusal.Refusal.TheVariants.{DayUnknown, OutOfRange, NoSuchDate}
use Rattle.shelf.specs.Meaning.{Meaning, tell_after, day_sum}
use Rattle.shelf.specs.Targets.{add_known, sum_over, balanced}
use Rattle.shelf.specs.Tells.{told_by, tells_after, Keeps, KeepsTargets}
use Rattle.shelf.specs.declared.telling.Tell.{Tell}
use Rattle.shelf.proofs.DaySums.{add_known_parts}

known_stays : (m : Meaning) (q e : ℕ) (n : ℤ) (p d : ℕ) (values : List ℕ) → m.known p d ≡ Some values → (tell_after m q e n).known p d ≡ Some values
known_stays m q e n p d values h = grind (arith, nat_tests)

pub tell_keeps : (m : Meaning) (p d : ℕ) (n : ℤ) → Keeps m (tell_after m p d n)
tell_keeps m p d n = record {
  same_count = grind (arith, nat_tests);
  same_groups = grind (arith, nat_tests);
  same_gives = grind (arith, nat_tests);
  keeps_known = known_stays m p d n;
}

keeps_then : (a b c : Meaning) → Keeps a b → Keeps b c → Keeps a c
keeps_then a b c ab bc = record {
  same_count = bc.same_count ∙ ab.same_count;
  same_groups = bc.same_groups ∙ ab.same_groups;
  same_gives = bc.same_gives ∙ ab.same_gives;
  keeps_known = λ p d values h. bc.keeps_known p d values (ab.keeps_known p d values h);
}

pub tells_keep : (m : Meaning) (ts : List Tell) → Keeps m (tells_after m ts)
tells_keep m [] = record { same_count = refl; same_groups = refl; same_gives = refl; keeps_known = λ p d values h. h }
tells_keep m (t ∷ ts) = keeps_then m (told_by m t) (tells_after m (t ∷ ts)) (tell_keeps m t.profile t.day t.number) (tells_keep (told_by m t) ts)

sum_over_keeps : (f g : ℕ → Option ℕ) → ((d x : ℕ) → f d ≡ Some x → g d ≡ Some x) → (from n t : ℕ) → sum_over f from n ≡ Some t → sum_over g from n ≡ Some t
unfolding sum_over
sum_over_keeps f g h from zero t e = e
sum_over_keeps f g h from (suc n) t e =
    let parts = add_known_parts (sum_over f from n) (f (from + n)) t e in
    let more = sum_over_keeps f g h from n parts.0 parts.1.1.0 in
    let here = h (from + n) parts.1.0 parts.1.1.1 in
    ap (λ o. add_known o (g (from + n))) more ∙ ap (add_known (Some parts.0)) here ∙ ap Some parts.1.1.2

known_where : (known : Option (List ℕ)) (forecast x : ℕ) → option_map (λ values. forecast * day_sum values) known ≡ Some x → (values : List ℕ) × (known ≡ Some values)
known_where None forecast x e = absurd (none-some x e)
known_where (Some values) forecast x e = (values, refl)

balanced_keeps : (m after : Meaning) → Keeps m after → (p forecast d x : ℕ) → balanced m p forecast d ≡ Some x → balanced after p forecast d ≡ Some x
balanced_keeps m after keeps p forecast d x e =
    let was = known_where (m.known p d) forecast x e in
    let same : after.known p d ≡ m.known p d = keeps.keeps_known p d was.0 was.1 ∙ sym was.1 in
    ap (option_map (λ values. forecast * day_sum values)) same ∙ e

-- an answer that is granted, by what the tests and the sum are
answer_keeps : (a b : Bool) (s t : Option ℕ) → ((x : ℕ) → s ≡ Some x → t ≡ Some x) → (grains : ℤ) → cond a (cond b (ok_or (option_map pos s) DayUnknown) (Err OutOfRange)) (Err NoSuchDate) ≡ Ok grains → cond a (cond b (ok_or (option_map pos t) DayUnknown) (Err OutOfRange)) (Err NoSuchDate) ≡ Ok grains
answer_keeps true true None t h grains e = cc
answer_keeps true true (Some x) t h grains e = ap (λ o. ok_or (option_map pos o) DayUnknown) (h x refl) ∙ e
answer_keeps true false s t h grains e = e
answer_keeps false b s t h grains e = e

pub targets_keep : (m after : Meaning) → Keeps m after → KeepsTargets m after
targets_keep m after keeps p forecast from to grains e =
    answer_keeps (leb to 14609) (leb forecast 200000) (sum_over (balanced m p forecast) from (to + 1 - from)) (sum_over (balanced after p forecast) from (to + 1 - from))
    (λ x. sum_over_keeps (balanced m p forecast) (balanced after p forecast) (balanced_keeps m after keeps p forecast) from (to + 1 - from) x) grains e
