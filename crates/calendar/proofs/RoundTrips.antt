-- Days and dates, to and fro. Assumes nothing.
use Rattle.std.proofs.Common.{◌≡◌, ℕ, ◌+◌, ◌-◌, ◌≤◌, true, Some, None, sym, refl, ap, ◌∙◌, arith}
use Rattle.std.proofs.lemmas.Bool.{cond-true}
use Rattle.std.proofs.lemmas.Bool.Decides.{nat_tests}
use Rattle.calendar.specs.declared.date.Date.{Date}
use Rattle.calendar.specs.Dates.{month_start, length_of, month_length, month_of, year_of, place_of, month_index, InMonth, date_of, day_of, valid, RoundTrip}
use Rattle.calendar.proofs.Months.{month_in, one_month, in_known, first_suc}

-- the parts of a date of 2000 to 2039
pub record Parts (d : Date) : Type 0 where
  pub y_low : 2000 ≤ d.year
  pub y_high : d.year ≤ 2039
  pub m_low : 1 ≤ d.month
  pub m_high : d.month ≤ 12
  pub d_low : 1 ≤ d.day
  pub d_high : d.day ≤ month_length d.year d.month

pub parts : (d : Date) → valid d ≡ true → Parts d
parts d v = record {
  y_low = grind (arith, nat_tests);
  y_high = grind (arith, nat_tests);
  m_low = grind (arith, nat_tests);
  m_high = grind (arith, nat_tests);
  d_low = grind (arith, nat_tests);
  d_high = grind (arith, nat_tests);
}

from_parts : (d : Date) → Parts d → valid d ≡ true
from_parts d p = grind (arith, nat_tests)

-- a month of a known year, by its number
index_at : (y m : ℕ) → 2000 ≤ y → 1 ≤ m → m ≤ 12 → (year_of (month_index y m) ≡ y) × (place_of (month_index y m) ≡ m)
index_at y m a b c = (omega arith, omega arith)

-- the days of such a month
pub length_at : (y m : ℕ) → 2000 ≤ y → 1 ≤ m → m ≤ 12 → length_of (month_index y m) ≡ month_length y m
unfolding length_of
length_at y m a b c = let at = index_at y m a b c in rw (at.0, at.1) refl

day_date_day : (n : ℕ) → n ≤ 14609 → day_of (date_of n) ≡ Some n
unfolding date_of length_of
day_date_day n h =
    let k = month_of n in
    let i = month_in n h in
    let next = first_suc k in
    let back : month_index (year_of k) (place_of k) ≡ k = omega arith in
    let v : valid (date_of n) ≡ true = from_parts (date_of n) (record { y_low = omega arith; y_high = omega (arith, i.known); m_low = omega arith; m_high = omega arith; d_low = omega arith; d_high = omega (arith, i.to, i.from) }) in
    cond-true _ _ _ v ∙ ap Some (rw back (omega (arith, i.from)))

-- the day of a date lies in the date's month
pub day_in : (d : Date) → Parts d → InMonth (month_index d.year d.month) (month_start (month_index d.year d.month) + (d.day - 1))
day_in d p =
    let next = first_suc (month_index d.year d.month) in
    let same = length_at d.year d.month p.y_low p.m_low p.m_high in
    record { known = omega (arith, p.y_high, p.m_high); from = omega arith; to = omega (arith, p.d_high, p.d_low) }

date_day_date : (d : Date) → valid d ≡ true → (n : ℕ) × (n ≤ 14609) × (day_of d ≡ Some n) × (date_of n ≡ d)
unfolding date_of
date_day_date d v =
    let p = parts d v in
    let k = month_index d.year d.month in
    let n = month_start k + (d.day - 1) in
    let i : InMonth k n = day_in d p in
    let at : month_of n ≡ k = one_month k n i in
    let of = index_at d.year d.month p.y_low p.m_low p.m_high in
    let day : n - month_start k + 1 ≡ d.day = omega (arith, p.d_low) in
    (n, in_known k n i, cond-true (valid d) (Some n) None v, λ i. record { year = (ap year_of at ∙ of.0) i; month = (ap place_of at ∙ of.1) i; day = (ap (λ j. n - month_start j + 1) at ∙ day) i })

one_day : (n m : ℕ) → n ≤ 14609 → m ≤ 14609 → date_of n ≡ date_of m → n ≡ m
one_day n m a b e =
    let same : Some n ≡ Some m = sym (day_date_day n a) ∙ (ap day_of e ∙ day_date_day m b) in
    cc

pub round_trip : RoundTrip
round_trip = record { day_date_day = day_date_day; one_day = one_day; date_day_date = date_day_date; month_in = month_in; one_month = one_month }
