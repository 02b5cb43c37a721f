-- Twelve months have at most 372 days. Assumes nothing.
use Rattle.std.proofs.Common.{◌≡◌, ℕ, zero, suc, ◌+◌, ◌-◌, ◌*◌, ◌≤◌, leb, Some, sym, ap, add-zero, arith}
use Rattle.calendar.specs.Dates.{month_start, on_months}
use Rattle.calendar.proofs.Months.{first_next, first_mono, first_end, length_high}
use Rattle.std.proofs.lemmas.Option.{cond_some}

span : (k j : ℕ) → month_start (k + j) ≤ month_start k + 31 * j
span k zero = omega (arith, ap month_start (add-zero k))
span k (suc j) =
    let e : k + suc j ≡ (k + j) + 1 = omega arith in
    rw (e, first_next) (omega (arith, span k j, length_high (k + j)))

-- the first day that a month is told to have is its own
pub start_is : (k x : ℕ) → Some x ≡ on_months k (month_start k) → x ≡ month_start k
start_is k x e = sym (cond_some (leb k 479) (month_start k) x (sym e)).1

pub record Span (month : ℕ) : Type 0 where
  pub forward : month_start (month - 13) ≤ month_start (month - 1)
  pub short : month_start (month - 1) ≤ month_start (month - 13) + 372
  pub inside : month_start (month - 1) ≤ 14610

pub year_span : (month : ℕ) → 13 ≤ month → month ≤ 479 → Span month
year_span month h k =
    let e : month - 13 + 12 ≡ month - 1 = omega arith in
    let f : month - 1 + (481 - month) ≡ 480 = omega arith in
    record {
      forward = omega (arith, rw e at (first_mono (month - 13) 12));
      short = omega (arith, rw e at (span (month - 13) 12));
      inside = omega (arith, rw f at (first_mono (month - 1) (481 - month)), first_end);
    }
