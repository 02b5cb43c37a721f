-- Easter in the years from 2000 to 2039. Assumes nothing.
use Rattle.std.proofs.Common.{◌≡◌, ℕ, zero, suc, ◌+◌, ◌-◌, ◌%◌, ◌<◌, ◌≤◌, Bool, true, ◌&&◌, eqb, refl, ap, subst, arith}
use Rattle.std.proofs.lemmas.Bool.Decides.{Decides-below_and, Decides-eqb, nat_tests}
use Rattle.calendar.specs.declared.week.Weekday.TheVariants.{Sunday}
use Rattle.calendar.specs.Dates.{month_start, length_of}
use Rattle.calendar.specs.Weeks.{in_week, weekday}
use Rattle.calendar.specs.Easter.{full_moon, to_sunday, easter, easter_by_scheme, Easters}

-- the way to Sunday, by the place in the week
to_sunday_is : (i : ℕ) → i < 7 → to_sunday (in_week i) ≡ 7 - (i + 1) % 7
to_sunday_is i h = grind (arith, nat_tests)

sunday_after : (n : ℕ) → weekday (n + to_sunday (weekday n)) ≡ Sunday
unfolding weekday
sunday_after n =
    let last : (n + to_sunday (in_week ((n + 5) % 7)) + 5) % 7 ≡ 6 = omega (arith, to_sunday_is ((n + 5) % 7) (omega arith)) in
    ap in_week last

sunday_near : (n : ℕ) → (1 ≤ to_sunday (weekday n)) × (to_sunday (weekday n) ≤ 7)
unfolding weekday
sunday_near n = let is = to_sunday_is ((n + 5) % 7) (omega arith) in (omega arith, omega arith)

all_agree : ℕ → Bool
all_agree zero = true
all_agree (suc j) = eqb (easter (2000 + j)) (easter_by_scheme (2000 + j)) && all_agree j

-- by one test at each year
agrees : (j : ℕ) → j < 40 → easter (2000 + j) ≡ easter_by_scheme (2000 + j)
unfolding all_agree easter full_moon weekday month_start length_of
agrees = (Decides-below_and (λ j. eqb (easter (2000 + j)) (easter_by_scheme (2000 + j))) (λ j. easter (2000 + j) ≡ easter_by_scheme (2000 + j)) all_agree (λ j. Decides-eqb _ _) refl (λ _. refl) 40).0 refl

by_scheme : (y : ℕ) → 2000 ≤ y → y ≤ 2039 → easter y ≡ easter_by_scheme y
by_scheme y low high =
    let e : 2000 + (y - 2000) ≡ y = omega arith in
    subst (λ x. easter x ≡ easter_by_scheme x) e (agrees (y - 2000) (omega arith))

pub easters : Easters
unfolding easter
easters = record {
  sunday = λ y _ _. sunday_after (full_moon y);
  after_full_moon = λ y _ _. let near = sunday_near (full_moon y) in (omega arith, omega arith);
  by_scheme = by_scheme;
}
