-- The unified price of a mix for a month of application.
--     PriceWithTotals                 a price with the cost and the energy that it comes from
--     told r                          an answer with its price as a number
--     total_answer c e                the answer for a cost c and an energy e
--     window_answer m ps mix first n  the answer for n days from the first on: the first refusal that applies, or the figures
--     unified_answer m ps mix month   the answer for the month, from its twelve months
--     Within low high ps first n      no hour of n days from the first on is priced below low or above high
--     Near low high x                 ten times the price x is over low - 5, and not over high + 5
--     Averages ps month r             a price is an average: it is near every low and high that the prices of its months are within
--     Rounds p r                      a price is p in hundredths of a cent per kWh, halves up
-- Assumes nothing.
use Rattle.std.specs.Prelude.{◌≡◌, ℕ, ◌+◌, ◌<◌, cond, ◌&&◌, ℤ, pos, ◌+ℤ◌, ◌*ℤ◌, ◌≤ℤ◌, ◌<ℤ◌, Some, Ok, Err, Result, ◌==◌, nat_le}
use Rattle.std.specs.Result.{result_map_both}
use Rattle.units.specs.declared.Refusal.{Refusal}
use Rattle.units.specs.declared.Refusal.TheVariants.{OutOfRange, DayUnknown, HourMissing, NoEnergy}
use Rattle.units.specs.Energy.{floor_div}
use Rattle.shelf.specs.Meaning.{Meaning}
use Rattle.mix.specs.declared.Mix.{Mix}
use Rattle.feed.specs.Prices.{Prices}
use Rattle.price.specs.declared.pricing.UnifiedPrice.{UnifiedPrice}
use Rattle.price.specs.Windows.{window_start, window_days}
use Rattle.price.specs.Prices.{energy, cost, all_known, all_priced}
use Rattle.price.specs.Rounding.{unified}

pub record PriceWithTotals : Type 0 where
  pub price : ℤ
  pub cost : ℤ
  pub energy : ℕ

abbrev pub told : Result UnifiedPrice Refusal → Result PriceWithTotals Refusal
told r = result_map_both (λ u. record { price = u.price.count; cost = u.cost; energy = u.energy }) (λ e. e) r

abbrev pub total_answer : ℤ → ℕ → Result PriceWithTotals Refusal
total_answer c e = cond (e == 0) (Err NoEnergy) (Ok (record { price = unified c e; cost = c; energy = e }))

abbrev pub window_answer : Meaning → Prices → Mix → ℕ → ℕ → Result PriceWithTotals Refusal
window_answer m prices mix first n =
    cond (all_known m mix first n)
    (cond (all_priced prices first n) (total_answer (cost m prices mix first n) (energy m mix first n)) (Err HourMissing))
    (Err DayUnknown)

abbrev pub unified_answer : Meaning → Prices → Mix → ℕ → Result PriceWithTotals Refusal
unified_answer m prices mix month =
    cond (nat_le 13 month && nat_le month 479) (window_answer m prices mix (window_start month) (window_days month)) (Err OutOfRange)

abbrev pub Within : ℤ → ℤ → Prices → ℕ → ℕ → Type 0
Within low high prices first n = (i hour : ℕ) (p : ℤ) → i < n → hour < 24 → prices (first + i) hour ≡ Some p → (low ≤ℤ p) × (p ≤ℤ high)

abbrev pub Near : ℤ → ℤ → ℤ → Type 0
Near low high x = (low <ℤ ((pos 10 *ℤ x) +ℤ pos 5)) × ((pos 10 *ℤ x) ≤ℤ (high +ℤ pos 5))

abbrev pub Averages : Prices → ℕ → Result PriceWithTotals Refusal → Type 0
Averages prices month (Ok f) = (low high : ℤ) → Within low high prices (window_start month) (window_days month) → Near low high f.price
Averages prices month (Err e) = Unit {0}

abbrev pub Rounds : ℤ → Result PriceWithTotals Refusal → Type 0
Rounds p (Ok f) = f.price ≡ floor_div (p +ℤ pos 5) 10
Rounds p (Err e) = Unit {0}
