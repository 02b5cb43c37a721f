-- The shares of a mix.
--     shares_in n places     the shares in the first n places, in their order
--     percent_sum shares     their percentages added up
-- Assumes nothing.
use Rattle.std.specs.Prelude.{ℕ, List, take, sum_by}
use Rattle.mix.specs.declared.share.Share.{Share}

abbrev pub shares_in : ℕ → List Share → List Share
shares_in n places = take n places

abbrev pub percent_sum : List Share → ℕ
percent_sum shares = sum_by (λ s. s.percent) shares
