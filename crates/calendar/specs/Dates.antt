-- The days from 1 January 2000 (day 0) to 31 December 2039 (day 14,609), by the lengths of the months, which are counted
-- from January 2000 (month 0) to December 2039 (month 479).
--     leap y                  y is a leap year by the Gregorian rule
--     month_length y m        the days of month m (1 to 12) of year y
--     year_of k, place_of k   the year of month k, and which of its months it is (1 to 12)
--     length_of k             the days of month k
--     month_start k           its first day
--     month_end k             its last day
--     month_from f k n        the month of the day that is n days after month k begins, f months after k at most
--     month_of n              the month that day n lies in
--     InMonth k n             day n lies in month k
--     date_of n               the date of day n
--     known_year y            y is a year of 2000 to 2039
--     known_month y m         2000 to 2039 have a month m of year y
--     month_index y m         its number
--     month_number y m        its number, where there is such a month
--     valid d                 2000 to 2039 have the date d
--     day_of d                its day, where there is such a date
--     day_of_year n           the days from 1 January to day n
--     on_days n x             x, where there is a day n
--     on_months k x           x, where there is a month k
--     on_years y x            x, where y is a known year
--     RoundTrip               days and dates go to and fro, and each day lies in one month
-- Assumes nothing.
use Rattle.std.specs.Prelude.{◌≡◌, ℕ, zero, suc, ◌+◌, ◌-◌, ◌*◌, ◌/◌, ◌%◌, ◌<◌, ◌≤◌, Bool, true, cond, not, ◌&&◌, ◌||◌, Some, None, Option, ◌==◌, nat_le, nat_lt}
use Rattle.calendar.specs.declared.date.Date.{Date}

abbrev pub leap : ℕ → Bool
leap y = (y % 4 == 0 && not (y % 100 == 0)) || y % 400 == 0

abbrev pub month_length : ℕ → ℕ → ℕ
month_length y m = cond (m == 2) (cond (leap y) 29 28) (cond (m == 4 || (m == 6 || (m == 9 || m == 11))) 30 31)

abbrev pub year_of : ℕ → ℕ
year_of k = 2000 + k / 12

abbrev pub place_of : ℕ → ℕ
place_of k = k % 12 + 1

unfoldable pub length_of : ℕ → ℕ
length_of k = month_length (year_of k) (place_of k)

-- the lengths of all months before it
unfoldable pub month_start : ℕ → ℕ
month_start zero = 0
month_start (suc k) = month_start k + length_of k

abbrev pub month_end : ℕ → ℕ
month_end k = month_start k + length_of k - 1

-- the month of the day that is n days after month k begins, among k and the f months after it
abbrev pub month_from : ℕ → ℕ → ℕ → ℕ
month_from zero k n = k
month_from (suc f) k n = cond (nat_lt n (length_of k)) k (month_from f (suc k) (n - length_of k))

unfoldable pub month_of : ℕ → ℕ
month_of n = month_from 480 0 n

pub record InMonth (k n : ℕ) : Type 0 where
  pub known : k < 480
  pub from : month_start k ≤ n
  pub to : n < month_start (suc k)

unfoldable pub date_of : ℕ → Date
date_of n = record { year = year_of (month_of n); month = place_of (month_of n); day = n - month_start (month_of n) + 1 }

abbrev pub known_year : ℕ → Bool
known_year y = nat_le 2000 y && nat_le y 2039

abbrev pub known_month : ℕ → ℕ → Bool
known_month y m = known_year y && (nat_le 1 m && nat_le m 12)

abbrev pub month_index : ℕ → ℕ → ℕ
month_index y m = 12 * (y - 2000) + (m - 1)

abbrev pub month_number : ℕ → ℕ → Option ℕ
month_number y m = cond (known_month y m) (Some (month_index y m)) None

abbrev pub valid : Date → Bool
valid d = known_month d.year d.month && (nat_le 1 d.day && nat_le d.day (month_length d.year d.month))

abbrev pub day_of : Date → Option ℕ
day_of d = cond (valid d) (Some (month_start (month_index d.year d.month) + (d.day - 1))) None

unfoldable pub day_of_year : ℕ → ℕ
day_of_year n = n - month_start (month_index (year_of (month_of n)) 1)

abbrev pub on_days : {X : Type 0} → ℕ → X → Option X
on_days n x = cond (nat_le n 14609) (Some x) None

abbrev pub on_months : {X : Type 0} → ℕ → X → Option X
on_months k x = cond (nat_le k 479) (Some x) None

abbrev pub on_years : {X : Type 0} → ℕ → X → Option X
on_years y x = cond (known_year y) (Some x) None

pub record RoundTrip : Type 0 where
  -- the day of a day's date is that day
  pub day_date_day : (n : ℕ) → n ≤ 14609 → day_of (date_of n) ≡ Some n
  -- no other day has its date
  pub one_day : (n m : ℕ) → n ≤ 14609 → m ≤ 14609 → date_of n ≡ date_of m → n ≡ m
  -- each date of 2000 to 2039 is the date of its day
  pub date_day_date : (d : Date) → valid d ≡ true → (n : ℕ) × (n ≤ 14609) × (day_of d ≡ Some n) × (date_of n ≡ d)
  -- each day lies in its month, and in no other
  pub month_in : (n : ℕ) → n ≤ 14609 → InMonth (month_of n) n
  pub one_month : (k n : ℕ) → InMonth k n → month_of n ≡ k
