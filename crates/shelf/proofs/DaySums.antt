-- Sums over days, and how large they get. Assumes nothing.
use Rattle.std.proofs.Common.{◌≡◌, ℕ, zero, suc, ◌+◌, ◌-◌, ◌*◌, ◌^◌, ◌≤◌, List, ℤ, pos, ◌+ℤ◌, nat_abs, Some, None, Ok, Err, Option, sym, refl, ap, ◌∙◌, mul-le-mul, arith}
use Rattle.std.proofs.lemmas.Bool.{le-leb}
use Rattle.std.proofs.lemmas.List.Elements.{All-from_get_or}
use Rattle.std.proofs.lemmas.List.Sums.{sum_by-le}
use Rattle.std.proofs.lemmas.Option.{none-some}
use Rattle.std.specs.Option.{option_map, ok_or}
use Rattle.units.specs.declared.refusal.Refusal.TheVariants.{DayUnknown}
use Rattle.shelf.specs.Meaning.{Meaning, Row, Fits, Lawful, day_sum}
use Rattle.shelf.specs.Targets.{add_known, sum_over, balanced, stretch_target}

-- where a sum of known parts is known, each part is
pub add_known_parts : (a b : Option ℕ) (t : ℕ) → add_known a b ≡ Some t → (x : ℕ) × ((y : ℕ) × ((a ≡ Some x) × (b ≡ Some y) × (x + y ≡ t)))
add_known_parts None b t e = absurd (none-some t e)
add_known_parts (Some x) None t e = absurd (none-some t e)
add_known_parts (Some x) (Some y) t e = (x, (y, (refl, refl, cc)))

module _ (part : ℕ → Option ℕ) (from : ℕ) where
  pub sum_over_none : (n : ℕ) → n ≡ 0 → sum_over part from n ≡ Some 0
  unfolding sum_over
  sum_over_none n none = ap (sum_over part from) none

  -- one day more
  pub sum_over_more : (day : ℕ) → from ≤ day → sum_over part from (day + 1 - from) ≡ add_known (sum_over part from (day - from)) (part day)
  unfolding sum_over
  sum_over_more day h =
      let more : day + 1 - from ≡ suc (day - from) = omega arith in
      let at : from + (day - from) ≡ day = omega arith in
      ap (sum_over part from) more ∙ ap (λ d. add_known (sum_over part from (day - from)) (part d)) at

  unknown_stays : (day k : ℕ) → from ≤ day → part day ≡ None → sum_over part from (day + 1 + k - from) ≡ None
  unknown_stays day zero h here = ap (sum_over part from) (omega arith) ∙ sum_over_more day h ∙ ap (add_known (sum_over part from (day - from))) here ∙ add_none (sum_over part from (day - from))
    where
      add_none : (o : Option ℕ) → add_known o None ≡ None
      add_none None = refl
      add_none (Some x) = refl
  unknown_stays day (suc k) h here =
      ap (sum_over part from) (omega arith) ∙ sum_over_more (day + 1 + k) (omega arith) ∙ ap (λ o. add_known o (part (day + 1 + k))) (unknown_stays day k h here)

  -- one unknown day makes the sum unknown
  pub sum_over_unknown : (day to : ℕ) → from ≤ day → day ≤ to → part day ≡ None → sum_over part from (to + 1 - from) ≡ None
  sum_over_unknown day to h short here = ap (sum_over part from) (omega arith) ∙ unknown_stays day (to - day) h here

  sum_over_le : (most : ℕ) → ((d x : ℕ) → part d ≡ Some x → x ≤ most) → (n s : ℕ) → sum_over part from n ≡ Some s → s ≤ most * n
  unfolding sum_over
  sum_over_le most each zero s e = let is : s ≡ 0 = cc in omega arith
  sum_over_le most each (suc n) s e =
      let parts = add_known_parts (sum_over part from n) (part (from + n)) s e in
      omega (arith, sum_over_le most each n parts.0 parts.1.1.0, each (from + n) parts.1.0 parts.1.1.1)

row_sum_bound : (values : List ℕ) → Row values → day_sum values ≤ 959904
row_sum_bound values row = omega (arith, sum_by-le (λ x. x) 9999 values (All-from_get_or (λ x. x ≤ 9999) values 0 (λ i h. row.capped i)), row.full)

pub grains_added : (a b : ℤ) (x y : ℕ) → a ≡ pos x → b ≡ pos y → a +ℤ b ≡ pos (x + y)
grains_added a b x y p q = cc

pub sum_held : (a b : ℤ) (x y : ℕ) → a ≡ pos x → b ≡ pos y → x + y ≤ 10 ^ 30 → nat_abs (a +ℤ b) ≤ 10 ^ 30
sum_held a b x y p q h = rw (grains_added a b x y p q) h

module _ (m : Meaning) (p forecast : ℕ) where
  -- what a day balances, by its day sum
  pub balanced_from : (d : ℕ) (sum : Option ℕ) → sum ≡ option_map day_sum (m.known p d) → balanced m p forecast d ≡ option_map (λ s. forecast * s) sum
  balanced_from d sum e = parts (m.known p d) ∙ ap (option_map (λ s. forecast * s)) (sym e)
    where
      parts : (known : Option (List ℕ)) → option_map (λ values. forecast * day_sum values) known ≡ option_map (λ s. forecast * s) (option_map day_sum known)
      parts None = refl
      parts (Some values) = refl

  -- a day balances at most 200,000 times 96 times 9,999
  pub balanced_bound : Lawful m → forecast ≤ 200000 → (d x : ℕ) → balanced m p forecast d ≡ Some x → x ≤ 191980800000
  balanced_bound law allowed d x = bound (m.known p d) (law.known_fits p d)
    where
      bound : (known : Option (List ℕ)) → Fits m p d known → option_map (λ values. forecast * day_sum values) known ≡ Some x → x ≤ 191980800000
      bound None fits e = absurd (none-some x e)
      bound (Some values) fits e = let is : forecast * day_sum values ≡ x = cc in omega (arith, mul-le-mul allowed (row_sum_bound values fits.2), is)

  pub part_bound : (d s : ℕ) → Lawful m → forecast ≤ 200000 → Some s ≡ option_map day_sum (m.known p d) → forecast * s ≤ 191980800000
  part_bound d s law allowed known = balanced_bound law allowed d (forecast * s) (balanced_from d (Some s) known)

module _ (m : Meaning) (p forecast from : ℕ) where
  module _ (day s : ℕ) (t v : ℤ) (so_far : Some t ≡ option_map pos (sum_over (balanced m p forecast) from (day - from))) (known : Some s ≡ option_map day_sum (m.known p day)) (is : v ≡ pos (forecast * s)) where
    -- the grains with one day more
    pub grains_more : (u : ℤ) → from ≤ day → u ≡ t +ℤ v → Some u ≡ option_map pos (sum_over (balanced m p forecast) from (day + 1 - from))
    grains_more u h sum =
        ap Some (sum ∙ ap (λ z. t +ℤ z) is)
        ∙ added (sum_over (balanced m p forecast) from (day - from)) so_far
        ∙ ap (λ o. option_map pos (add_known (sum_over (balanced m p forecast) from (day - from)) o)) (sym (balanced_from m p forecast day (Some s) known))
        ∙ ap (option_map pos) (sym (sum_over_more (balanced m p forecast) from day h))
      where
        added : (o : Option ℕ) → Some t ≡ option_map pos o → Some (t +ℤ pos (forecast * s)) ≡ option_map pos (add_known o (Some (forecast * s)))
        added None e = cc
        added (Some y) e = let same : t ≡ pos y = cc in ap Some (grains_added t (pos (forecast * s)) y (forecast * s) same refl)

    pub grains_held : Lawful m → forecast ≤ 200000 → day ≤ 14609 → nat_abs (t +ℤ v) ≤ 10 ^ 30
    grains_held law allowed days = held (sum_over (balanced m p forecast) from (day - from)) refl so_far
      where
        held : (o : Option ℕ) → sum_over (balanced m p forecast) from (day - from) ≡ o → Some t ≡ option_map pos o → nat_abs (t +ℤ v) ≤ 10 ^ 30
        held None at e = absurd (none-some t (sym e))
        held (Some y) at e =
            let each = balanced_bound m p forecast law allowed in
            let same : t ≡ pos y = cc in
            let small = part_bound m p forecast day s law allowed known in
            sum_held t v y (forecast * s) same is (omega (arith, small, sum_over_le (balanced m p forecast) from 191980800000 each (day - from) y at))

  module _ (to : ℕ) (days : to ≤ 14609) (allowed : forecast ≤ 200000) where
    -- the answer, by the sum
    pub stretch_answer : (sum : Option ℕ) → sum ≡ sum_over (balanced m p forecast) from (to + 1 - from) → ok_or (option_map pos sum) DayUnknown ≡ stretch_target m p forecast from to
    stretch_answer sum is = rw (le-leb to 14609 days, le-leb forecast 200000 allowed) (ap (λ o. ok_or (option_map pos o) DayUnknown) is)

    -- the answer where each day is known, and where one is not
    pub stretch_known : (n : ℕ) (t : ℤ) → n ≡ to + 1 - from → Some t ≡ option_map pos (sum_over (balanced m p forecast) from n) → Ok t ≡ stretch_target m p forecast from to
    stretch_known n t all sum = ap (λ o. ok_or o DayUnknown) (sum ∙ ap (λ k. option_map pos (sum_over (balanced m p forecast) from k)) all) ∙ stretch_answer (sum_over (balanced m p forecast) from (to + 1 - from)) refl

    pub stretch_unknown : (day : ℕ) → from ≤ day → day ≤ to → None ≡ option_map day_sum (m.known p day) → stretch_target m p forecast from to ≡ Err DayUnknown
    stretch_unknown day h short unknown = sym (stretch_answer None (sym (sum_over_unknown (balanced m p forecast) from day to h short (balanced_from m p forecast day None unknown))))
