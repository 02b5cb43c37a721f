-- Prices in range, and the prices of a table of hours. Assumes nothing.
use Rattle.std.specs.Prelude.{◌≡◌, ℕ, ◌+◌, ◌-◌, ◌*◌, ◌<◌, ◌≤◌, Bool, true, ◌&&◌, List, length, ℤ, pos, negsuc, Some, None, Decides, Option, nat_le, nat_lt, slice_index_or, unsigned_abs, refl}
use Rattle.std.proofs.Common.{sym, subst, ⊎_elim, arith}
use Rattle.std.proofs.lemmas.List.{get_or_default, get_or_past}
use Rattle.std.proofs.lemmas.Int.{ints}
use Rattle.std.proofs.lemmas.Bool.{cases_lt, cond_both}
use Rattle.feed.specs.Prices.{InRange, HourInRange, HoursInRange, Held, flat_prices, table_prices}

hour_some : (q : ℤ) → InRange q → HourInRange (Some q)
hour_some q r p e = let same : q ≡ p = cc in subst InRange same r

hour_none : HourInRange None
hour_none p e = let z : ◌≡◌ {A = ℕ} 0 1 = cc in absurd (omega arith)

pub some_decided : (o : Option ℤ) (q : ℤ) (r : Bool) → o ≡ Some q → Decides r (InRange q) → Decides r (HourInRange o)
some_decided o q r is d = (λ yes. subst HourInRange (sym is) (hour_some q (d.0 yes)), λ all. d.1 (all q is))

pub none_decided : (o : Option ℤ) → o ≡ None → Decides true (HourInRange o)
none_decided o is = (λ _. subst HourInRange (sym is) hour_none, λ _. refl)

size_held : (p : ℤ) → InRange p → unsigned_abs p ≤ 300000
size_held (pos n) r = omega (arith, ints, r.1)
size_held (negsuc n) r = omega (arith, ints, r.0)

pub flat_held : (q : ℤ) → InRange q → Held (flat_prices q)
flat_held q r day hour p e = size_held p (cond_both (nat_lt hour 24) (Some q) None HourInRange (λ _. hour_some q r) (λ _. hour_none) p e)

-- what holds of each hour of the table holds past its end too
hour_at : (hours : List (Option ℤ)) (k : ℕ) → HoursInRange hours → HourInRange (slice_index_or hours k None)
hour_at hours k all = ⊎_elim (λ lt. all k None lt) (λ ge. subst HourInRange (sym (get_or_past hours k None (omega arith))) hour_none) (cases_lt k (length hours))

pub table_held : (first : ℕ) (hours : List (Option ℤ)) → HoursInRange hours → Held (table_prices first hours)
table_held first hours r day hour p e =
    let place = 24 * (day - first) + hour in
    size_held p (cond_both (nat_le first day && nat_lt hour 24) (slice_index_or hours place None) None HourInRange (λ _. hour_at hours place r) (λ _. hour_none) p e)

pub table_past : (first : ℕ) (hours : List (Option ℤ)) (day hour : ℕ) → length hours ≤ 24 * (day - first) + hour → None ≡ table_prices first hours day hour
table_past first hours day hour h =
    let place = 24 * (day - first) + hour in
    cond_both (nat_le first day && nat_lt hour 24) (slice_index_or hours place None) None (λ o. None ≡ o) (λ _. sym (get_or_past hours place None h)) (λ _. refl)

pub all_hours : (hours : List (Option ℤ)) (n : ℕ) → length hours ≤ n → ((k : ℕ) → k < n → HourInRange (slice_index_or hours k None)) → HoursInRange hours
all_hours hours n all below = λ k d short. subst HourInRange (get_or_default hours k None d short) (below k (omega arith))
