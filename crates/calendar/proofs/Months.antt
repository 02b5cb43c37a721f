-- The months, by their first days and their lengths. Assumes nothing.
use Rattle.std.proofs.Common.{◌≡◌, ℕ, zero, suc, ◌+◌, ◌-◌, ◌*◌, ◌/◌, ◌%◌, ◌<◌, ◌≤◌, Bool, true, cond, ◌&&◌, eqb, ltb, leb, List, [], ◌∷◌, get_or, refl, sym, ap, subst, add-zero, add-one, arith}
use Rattle.std.proofs.lemmas.Bool.Decides.{Decides-below_and, Decides-eqb, Decides-ltb, nat_tests}
use Rattle.std.proofs.lemmas.Bool.{cond_both, ltb-true, ltb-false}
use Rattle.calendar.specs.Dates.{year_of, month_index, month_start, length_of, month_from, month_of, InMonth, day_of_year}

-- the days of a common year before each month
abbrev before : List ℕ
before = 0 ∷ 31 ∷ 59 ∷ 90 ∷ 120 ∷ 151 ∷ 181 ∷ 212 ∷ 243 ∷ 273 ∷ 304 ∷ 334 ∷ []

-- the first day of month k, in closed form
abbrev pub closed : ℕ → ℕ
closed k = 365 * (k / 12) + (k / 12 + 3) / 4 + get_or before (k % 12) 0 + cond (leb 2 (k % 12) && eqb (k / 12 % 4) 0) 1 0

all_closed : ℕ → Bool
all_closed zero = true
all_closed (suc n) = eqb (closed n) (month_start n) && all_closed n

-- the closed form is right, by one test at each month
pub closed_is : (k : ℕ) → k < 481 → closed k ≡ month_start k
unfolding all_closed month_start length_of
closed_is = (Decides-below_and (λ k. eqb (closed k) (month_start k)) (λ k. closed k ≡ month_start k) all_closed (λ k. Decides-eqb (closed k) (month_start k)) refl (λ _. refl) 481).0 refl

pub start_is : (k : ℕ) → k < 481 → month_start k ≡ closed k
start_is k h = sym (closed_is k h)

first_zero : month_start 0 ≡ 0
unfolding month_start
first_zero = refl

-- the months end with day 14,609
pub first_end : month_start 480 ≡ 14610
unfolding month_start length_of
first_end = refl

pub length_low : (k : ℕ) → 28 ≤ length_of k
unfolding length_of
length_low k = grind (arith, nat_tests)

pub length_high : (k : ℕ) → length_of k ≤ 31
unfolding length_of
length_high k = grind (arith, nat_tests)

-- each month begins where the one before ends
pub first_suc : (k : ℕ) → month_start (suc k) ≡ month_start k + length_of k
unfolding month_start
first_suc k = refl

pub first_next : (k : ℕ) → month_start (k + 1) ≡ month_start k + length_of k
first_next k = rw add-one (first_suc k)

pub first_le31 : (k : ℕ) → month_start k ≤ 31 * k
unfolding month_start
first_le31 zero = omega arith
first_le31 (suc k) = omega (arith, first_le31 k, length_high k)

all_low : ℕ → Bool
all_low zero = true
all_low (suc n) = ltb (2 * month_start n) (61 * n + 2) && all_low n

-- k months have at most (61 k + 1) / 2 days, by one test at each month
pub first_low : (k : ℕ) → k < 480 → 2 * month_start k < 61 * k + 2
unfolding all_low month_start length_of
first_low = (Decides-below_and (λ k. ltb (2 * month_start k) (61 * k + 2)) (λ k. 2 * month_start k < 61 * k + 2) all_low (λ k. Decides-ltb _ _) refl (λ _. refl) 480).0 refl

-- the last month ends with day 14,609
pub last_end : (k : ℕ) → k ≡ 479 → month_start k + length_of k ≡ 14610
last_end k e = omega (arith, first_next k, ap (λ j. month_start (j + 1)) e, first_end)

-- later months begin later
pub first_mono : (k j : ℕ) → month_start k + 28 * j ≤ month_start (k + j)
first_mono k zero = omega (arith, ap month_start (add-zero k))
first_mono k (suc j) =
    let e : k + suc j ≡ (k + j) + 1 = omega arith in
    rw (e, first_next) (omega (arith, first_mono k j, length_low (k + j)))

-- the months from k on end with day 14,609
pub room : (k : ℕ) → k < 480 → length_of k + month_start k + 28 * (479 - k) ≤ 14610
room k h =
    let e : (k + 1) + (479 - k) ≡ 480 = omega arith in
    omega (arith, first_next k, rw e at (first_mono (k + 1) (479 - k)), first_end)

first_lt : (k j : ℕ) → k < j → month_start (k + 1) ≤ month_start j
first_lt k j h =
    let e : (k + 1) + (j - (k + 1)) ≡ j = omega arith in
    omega (arith, rw e at (first_mono (k + 1) (j - (k + 1))))

in_one : (k j n : ℕ) → InMonth k n → InMonth j n → k ≡ j
in_one k j n a b = grind (arith, first_lt k j, first_lt j k, add-one k, add-one j)

walk : (f k n : ℕ) → k + f ≡ 480 → month_start k + n < month_start 480 → InMonth (month_from f k n) (month_start k + n)
walk zero k n e h = let same : k ≡ 480 = omega arith in absurd (omega (arith, ap month_start same))
walk (suc f) k n e h =
    let next = first_suc k in
    cond_both (ltb n (length_of k)) k (month_from f (suc k) (n - length_of k)) (λ m. InMonth m (month_start k + n))
    (λ t. record { known = omega arith; from = omega arith; to = omega (arith, ltb-true n (length_of k) t) })
    (λ t.
    let low : length_of k ≤ n = ltb-false n (length_of k) t in
    let same : month_start (suc k) + (n - length_of k) ≡ month_start k + n = omega arith in
    subst (InMonth (month_from f (suc k) (n - length_of k))) same (walk f (suc k) (n - length_of k) (omega arith) (omega arith)))

-- each day lies in its month
pub month_in : (n : ℕ) → n ≤ 14609 → InMonth (month_of n) n
unfolding month_of
month_in n h =
    let zero_first : month_start 0 ≡ 0 = first_zero in
    let same : month_start 0 + n ≡ n = omega arith in
    subst (InMonth (month_from 480 0 n)) same (walk 480 0 n (omega arith) (omega (arith, first_end)))

pub in_known : (k n : ℕ) → InMonth k n → n ≤ 14609
in_known k n i = omega (arith, i.to, first_lt k 480 i.known, ap month_start (add-one k), first_end)

-- and in no other
pub one_month : (k n : ℕ) → InMonth k n → month_of n ≡ k
one_month k n i = in_one (month_of n) k n (month_in n (in_known k n i)) i

all_years : ℕ → Bool
all_years zero = true
all_years (suc j) = ltb (month_start (12 * j + 12)) (month_start (12 * j) + 367) && all_years j

year_length : (j : ℕ) → j < 40 → month_start (12 * j + 12) < month_start (12 * j) + 367
unfolding all_years month_start length_of
year_length = (Decides-below_and (λ j. ltb (month_start (12 * j + 12)) (month_start (12 * j) + 367)) (λ j. month_start (12 * j + 12) < month_start (12 * j) + 367) all_years (λ j. Decides-ltb _ _) refl (λ _. refl) 40).0 refl

-- a year begins no later than its months
pub year_start_low : (k : ℕ) → month_start (month_index (year_of k) 1) ≤ month_start k
year_start_low k =
    let e : month_index (year_of k) 1 + (k - month_index (year_of k) 1) ≡ k = omega arith in
    omega (arith, rw e at (first_mono (month_index (year_of k) 1) (k - month_index (year_of k) 1)))

-- a year has at most 366 days
pub day_of_year_high : (n : ℕ) → n ≤ 14609 → day_of_year n ≤ 365
unfolding day_of_year
day_of_year_high n h =
    let k = month_of n in
    let i = month_in n h in
    let e : (k + 1) + (12 * (k / 12) + 12 - (k + 1)) ≡ 12 * (k / 12) + 12 = omega arith in
    let s : 12 * (2000 + k / 12 - 2000) + (1 - 1) ≡ 12 * (k / 12) = omega arith in
    omega (arith, i.to, ap month_start (add-one k), ap month_start s, rw e at (first_mono (k + 1) (12 * (k / 12) + 12 - (k + 1))), year_length (k / 12) (omega (arith, i.known)))
