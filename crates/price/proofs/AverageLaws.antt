-- The unified price is an average of the hours' prices. Assumes nothing.
use Rattle.std.proofs.Common.{◌≡◌, ℕ, zero, suc, ◌+◌, ◌*◌, ◌/◌, ◌<◌, true, ◌&&◌, eqb, ltb, leb, List, [], ◌∷◌, length, fold, ℤ, pos, negsuc, ◌+ℤ◌, ◌*ℤ◌, neg_ℤ, ◌≤ℤ◌, is_some, Some, None, Ok, Err, Option, Result, unwrap_or, sym, refl, ap, ◌∙◌, subst, add-mul, arith}
use lib.IntN.{neg_ℤ-+ℤ, zero-*ℤ, suc_ℤ-*ℤ}
use lib.Signed.{≤ℤ_refl}
use Rattle.std.specs.List.{All, range_with_len}
use Rattle.std.proofs.lemmas.Int.{ints}
use Rattle.std.proofs.lemmas.Bool.{cond_both, false≢true}
use Rattle.units.specs.declared.Refusal.{Refusal}
use Rattle.units.specs.declared.Refusal.TheVariants.{NoEnergy}
use Rattle.units.specs.Energy.{floor_div}
use Rattle.std.proofs.lemmas.Option.{cond_some}
use Rattle.shelf.specs.Meaning.{Meaning}
use Rattle.mix.specs.declared.Mix.{Mix}
use Rattle.mix.specs.Loads.{load}
use Rattle.feed.specs.Prices.{Prices, flat_prices}
use Rattle.price.specs.Windows.{window_start, window_days}
use Rattle.price.specs.Prices.{quarters, quarter_cost, day_priced, day_energy, day_cost, energy, cost, all_known, all_priced}
use Rattle.price.specs.Rounding.{unified}
use Rattle.price.specs.Answers.{PriceWithTotals, Within, Near, Averages, Rounds, unified_answer}
use Rattle.price.proofs.Ranges.{each_from, passes_at, each_quarter, passes_at_hour}
use Rattle.price.proofs.Floors.{floor_mono, tenth_near, tenth_is, shortened}
use Rattle.price.proofs.PriceSizes.{some_energy}

-- a cost at prices from low to high
abbrev Between : ℤ → ℤ → ℕ → ℤ → Type 0
Between low high e c = ((pos e *ℤ low) ≤ℤ c) × (c ≤ℤ (pos e *ℤ high))

add_times : (a b : ℕ) (z : ℤ) → pos (a + b) *ℤ z ≡ pos a *ℤ z +ℤ pos b *ℤ z
add_times a b (pos k) = ap pos (add-mul a b k)
add_times a b (negsuc k) = ap (λ n. neg_ℤ (pos n)) (add-mul a b (suc k)) ∙ neg_ℤ-+ℤ (pos (a * suc k)) (pos (b * suc k))

times_mono : (e : ℕ) (y z : ℤ) → y ≤ℤ z → (pos e *ℤ y) ≤ℤ (pos e *ℤ z)
times_mono zero y z h = omega (arith, ints, zero-*ℤ y, zero-*ℤ z)
times_mono (suc e) y z h = omega (arith, ints, suc_ℤ-*ℤ (pos e) y, suc_ℤ-*ℤ (pos e) z, times_mono e y z h)

sum_between : (low high : ℤ) (g : ℕ → ℕ) (f : ℕ → ℤ) (xs : List ℕ) (e : ℕ) (c : ℤ) → Between low high e c → All (λ x. Between low high (g x) (f x)) xs → Between low high (fold (λ s x. s + g x) e xs) (fold (λ s x. s +ℤ f x) c xs)
sum_between low high g f [] e c so_far each = so_far
sum_between low high g f (x ∷ xs) e c so_far each =
    let first : 0 < length (x ∷ xs) = omega arith in
    let here = each 0 x first in
    sum_between low high g f xs (e + g x) (c +ℤ f x)
    (omega (arith, ints, add_times e (g x) low, so_far.0, here.0), omega (arith, ints, add_times e (g x) high, so_far.1, here.1))
    (λ k d lt. each (suc k) d (omega arith))

-- no energy costs nothing
none_between : (low high : ℤ) → Between low high 0 (pos 0)
none_between low high = (omega (arith, ints, zero-*ℤ low), omega (arith, ints, zero-*ℤ high))

price_between : (low high : ℤ) (o : Option ℤ) → is_some o ≡ true → ((p : ℤ) → o ≡ Some p → (low ≤ℤ p) × (p ≤ℤ high)) → (low ≤ℤ unwrap_or o (pos 0)) × (unwrap_or o (pos 0) ≤ℤ high)
price_between low high None some h = absurd (false≢true some)
price_between low high (Some p) some h = h p refl

shuffled : (a b c d : ℤ) → (a +ℤ b) +ℤ (c +ℤ d) ≡ (a +ℤ c) +ℤ (b +ℤ d)
shuffled a b c d = omega (arith, ints)

times_add : (e : ℕ) (x y : ℤ) → pos e *ℤ (x +ℤ y) ≡ pos e *ℤ x +ℤ pos e *ℤ y
times_add zero x y = zero-*ℤ (x +ℤ y) ∙ ap (λ z. z +ℤ pos 0) (sym (zero-*ℤ x)) ∙ ap (λ z. pos 0 *ℤ x +ℤ z) (sym (zero-*ℤ y))
times_add (suc e) x y =
    suc_ℤ-*ℤ (pos e) (x +ℤ y)
    ∙ ap (λ s. s +ℤ (x +ℤ y)) (times_add e x y)
    ∙ shuffled (pos e *ℤ x) (pos e *ℤ y) x y
    ∙ ap (λ s. s +ℤ (pos e *ℤ y +ℤ y)) (sym (suc_ℤ-*ℤ (pos e) x))
    ∙ ap (λ s. pos (suc e) *ℤ x +ℤ s) (sym (suc_ℤ-*ℤ (pos e) y))

tenths_near : (low high x : ℤ) → floor_div (low +ℤ pos 5) 10 ≤ℤ x → x ≤ℤ floor_div (high +ℤ pos 5) 10 → Near low high x
tenths_near low high x above below =
    let from = tenth_near (low +ℤ pos 5) in
    let to = tenth_near (high +ℤ pos 5) in
    (omega (arith, ints), omega (arith, ints))

-- the rounded price of such a cost
rounded_near : (low high c : ℤ) (e : ℕ) → 0 < e → Between low high e c → Near low high (unified c e)
rounded_near low high c e some between =
    let ten : 0 < 10 * e = omega arith in
    let five : e * 5 ≡ 5 * e = omega arith in
    let from : (pos e *ℤ (low +ℤ pos 5)) ≤ℤ (c +ℤ pos (5 * e)) = omega (arith, ints, times_add e low (pos 5), between.0) in
    let to : (c +ℤ pos (5 * e)) ≤ℤ (pos e *ℤ (high +ℤ pos 5)) = omega (arith, ints, times_add e high (pos 5), between.1) in
    tenths_near low high (unified c e)
    (subst (λ z. z ≤ℤ unified c e) (shortened e (low +ℤ pos 5) some) (floor_mono (pos e *ℤ (low +ℤ pos 5)) (c +ℤ pos (5 * e)) (10 * e) ten from))
    (subst (λ z. unified c e ≤ℤ z) (shortened e (high +ℤ pos 5) some) (floor_mono (c +ℤ pos (5 * e)) (pos e *ℤ (high +ℤ pos 5)) (10 * e) ten to))

module _ (m : Meaning) (prices : Prices) (mix : Mix) (first n : ℕ) (priced : all_priced prices first n ≡ true) (low high : ℤ) (within : Within low high prices first n) where
  quarter_between : (i q : ℕ) → i < n → q < 96 → Between low high (load m mix (first + i) q) (quarter_cost m prices mix (first + i) q)
  quarter_between i q in_days in_day =
      let day = first + i in
      let hour = q / 4 in
      let on_hour : hour < 24 = omega arith in
      let some = passes_at_hour (λ h. is_some (prices day h)) hour (passes_at (day_priced prices) first n i priced in_days) on_hour in
      let near = price_between low high (prices day hour) some (λ p e. within i hour p in_days on_hour e) in
      (times_mono (load m mix day q) low _ near.0, times_mono (load m mix day q) _ high near.1)

  cost_between : Between low high (energy m mix first n) (cost m prices mix first n)
  cost_between =
      sum_between low high (day_energy m mix) (day_cost m prices mix) (range_with_len first n) 0 (pos 0) (none_between low high)
      (each_from (λ day. Between low high (day_energy m mix day) (day_cost m prices mix day)) first n (λ i in_days. sum_between low high (load m mix (first + i)) (quarter_cost m prices mix (first + i)) quarters 0 (pos 0) (none_between low high)
      (each_quarter (λ q. Between low high (load m mix (first + i) q) (quarter_cost m prices mix (first + i) q)) (λ q in_day. quarter_between i q in_days in_day))))

pub averages : (m : Meaning) (prices : Prices) (mix : Mix) (month : ℕ) → Averages prices month (unified_answer m prices mix month)
averages m prices mix month =
    let A = Averages prices month in
    let first = window_start month in
    let n = window_days month in
    let e = energy m mix first n in
    let c = cost m prices mix first n in
    cond_both (leb 13 month && leb month 479) _ _ A
    (λ _. cond_both (all_known m mix first n) _ _ A
    (λ _. cond_both (all_priced prices first n) _ _ A
    (λ priced. cond_both (eqb e 0) (Err NoEnergy) (Ok (record { price = unified c e; cost = c; energy = e })) A
    (λ _. tt)
    (λ some low high within. rounded_near low high c e (some_energy e some) (cost_between m prices mix first n priced low high within)))
    (λ _. tt))
    (λ _. tt))
    (λ _. tt)

flat_within : (p : ℤ) (first n : ℕ) → Within p p (flat_prices p) first n
flat_within p first n i hour q in-days on_hour e =
    let same : p ≡ q = (cond_some (ltb hour 24) p q e).1 in
    (subst (λ z. p ≤ℤ z) same (≤ℤ_refl p), subst (λ z. z ≤ℤ p) same (≤ℤ_refl p))

-- between one price and the same price there is no other
pub flat_rounds : (p : ℤ) (month : ℕ) (r : Result PriceWithTotals Refusal) → Averages (flat_prices p) month r → Rounds p r
flat_rounds p month (Err e) a = tt
flat_rounds p month (Ok f) a =
    let near = a p p (flat_within p (window_start month) (window_days month)) in
    tenth_is (p +ℤ pos 5) f.price near.1 (omega (arith, ints, near.0))
