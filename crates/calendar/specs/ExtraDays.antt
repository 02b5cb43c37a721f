-- Lists of extra days.
--     rising low xs     the days xs begin no earlier than low, each is later than the one before, and none is past day 14,609
--     good_days xs      there are at most 64, in such an order
--     among n xs        day n is one of them
-- Assumes nothing.
use Rattle.std.specs.Prelude.{ℕ, suc, Bool, true, ◌&&◌, List, [], ◌∷◌, length, ◌==◌, nat_le}
use Rattle.std.specs.List.{list_any}

abbrev pub rising : ℕ → List ℕ → Bool
rising low [] = true
rising low (x ∷ xs) = nat_le low x && (nat_le x 14609 && rising (suc x) xs)

abbrev pub good_days : List ℕ → Bool
good_days xs = nat_le (length xs) 64 && rising 0 xs

abbrev pub among : ℕ → List ℕ → Bool
among n xs = list_any (λ x. x == n) xs
