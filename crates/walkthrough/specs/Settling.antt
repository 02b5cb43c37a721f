-- How one supplier's period at one point is settled, where its profile has the same values every day.
--     first_counted p       the first day that is balanced: none before use begins, none before balancing does
--     days_counted p        the days from there to the end of use
--     advance a b           how far the meter went from a to b; after 999,999 it goes to 0
--     why p                 the rule that turns the period down, if any: the first that applies
--     Settles p a           the account a is the period's
-- Assumes nothing.
use Rattle.std.specs.Prelude.{◌≡◌, ℕ, suc, ◌+◌, ◌-◌, ◌*◌, ◌%◌, max, cond, ◌||◌, pos, Some, None, Option, nat_lt}
use Rattle.units.specs.declared.Refusal.{Refusal}
use Rattle.units.specs.declared.Refusal.TheVariants.{NoSuchDate, OutOfRange, EndOutOfPlace}
use Rattle.units.specs.Energy.{difference_of, billed, rest}
use Rattle.units.specs.Money.{amount_of}
use Rattle.walkthrough.specs.declared.period.Period.{Period}
use Rattle.walkthrough.specs.declared.period.Account.{Account}

abbrev pub first_counted : Period → ℕ
first_counted p = max p.use_from p.balanced_from

abbrev pub days_counted : Period → ℕ
days_counted p = suc p.use_end - first_counted p

abbrev pub advance : ℕ → ℕ → ℕ
advance a b = (b + 1000000 - a) % 1000000

abbrev pub why : Period → Option Refusal
why p =
    cond (nat_lt 14609 p.use_end) (Some NoSuchDate)
    (cond (nat_lt 999999 p.reading_before || nat_lt 999999 p.reading_at_end) (Some OutOfRange)
    (cond (nat_lt p.use_end p.use_from) (Some EndOutOfPlace) None))

pub record Settles (p : Period) (a : Account) : Type 0 where
  pub days_are : a.days ≡ days_counted p
  pub target_is : a.target.count ≡ pos (days_counted p * (p.forecast * p.day_sum))
  pub actual_is : a.actual.count ≡ pos (advance p.reading_before p.reading_at_end)
  pub difference_is : a.difference.count ≡ difference_of a.target.count a.actual.count
  -- no other bill stands
  pub billed_is : a.billed.count ≡ billed (pos 0) a.difference.count
  pub left_is : a.left.count ≡ rest a.difference.count
  pub amount_is : a.amount.count ≡ amount_of a.billed.count p.price.count
