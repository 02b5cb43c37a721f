-- Energy in grains and in kilowatt-hours, both signed. One kilowatt-hour is 40,000,000 grains.
--     floor_div z n         z / n rounded down
--     rounded v             v grains in whole kWh: (v + 20,000,000) / 40,000,000 rounded down, so halves go up
--     rest v                the grains that rounding leaves, above or below the whole kWh
--     difference_of t a     a target of t grains less an actual of a kWh, in grains
--     surplus, shortfall    a difference above zero; the size of one below zero
--     billed before d       the kWh of a bill with the difference d, where the delivery's other standing bills have differences that add up to `before`
--     billed_in_turn        the kWh of bills with these differences, made one after the other, added up
--     total                 differences added up
--     RoundedOnce           however a delivery is cut into bills, their kWh add up to its exact figure rounded once
-- Assumes nothing.
use Rattle.std.specs.Prelude.{◌≡◌, ℕ, suc, ◌/◌, List, [], ◌∷◌, ℤ, pos, negsuc, ◌+ℤ◌, ◌-ℤ◌, ◌*ℤ◌}

abbrev pub floor_div : ℤ → ℕ → ℤ
floor_div (pos a) n = pos (a / n)
floor_div (negsuc a) n = negsuc (a / n)

abbrev pub rounded : ℤ → ℤ
rounded v = floor_div (v +ℤ pos 20000000) 40000000

abbrev pub rest : ℤ → ℤ
rest v = v -ℤ (pos 40000000 *ℤ rounded v)

abbrev pub difference_of : ℤ → ℤ → ℤ
difference_of t a = t -ℤ (pos 40000000 *ℤ a)

abbrev pub surplus : ℤ → ℕ
surplus (pos n) = n
surplus (negsuc n) = 0

abbrev pub shortfall : ℤ → ℕ
shortfall (pos n) = 0
shortfall (negsuc n) = suc n

abbrev pub billed : ℤ → ℤ → ℤ
billed before d = rounded (before +ℤ d) -ℤ rounded before

abbrev pub billed_in_turn : ℤ → List ℤ → ℤ
billed_in_turn before [] = pos 0
billed_in_turn before (d ∷ ds) = billed before d +ℤ billed_in_turn (before +ℤ d) ds

abbrev pub total : List ℤ → ℤ
total [] = pos 0
total (d ∷ ds) = d +ℤ total ds

abbrev pub RoundedOnce : Type 0
RoundedOnce = (ds : List ℤ) → billed_in_turn (pos 0) ds ≡ rounded (total ds)
