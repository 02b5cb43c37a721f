-- What a mix of profiles loads in a quarter hour.
--     value_of m p d q         the value of profile p in quarter hour q of day d, 0 where there is none
--     load m mix d q           percentage times value, added over the shares of the mix
--     known_on m mix d         the profile of each share is known on day d
-- Assumes nothing.
use Rattle.std.specs.Prelude.{ℕ, ◌*◌, Bool, is_some, sum_by}
use Rattle.std.specs.Option.{unwrap_or}
use Rattle.std.specs.List.{list_all}
use Rattle.shelf.specs.Meaning.{Meaning, quarter_of}
use Rattle.mix.specs.declared.mixes.Mix.{Mix}
use Rattle.mix.specs.Mixes.{shares_of}

abbrev pub value_of : Meaning → ℕ → ℕ → ℕ → ℕ
value_of m profile day quarter = unwrap_or (quarter_of (m.known profile day) quarter) 0

abbrev pub load : Meaning → Mix → ℕ → ℕ → ℕ
load m mix day quarter = sum_by (λ s. s.percent * value_of m s.profile day quarter) (shares_of mix)

abbrev pub known_on : Meaning → Mix → ℕ → Bool
known_on m mix day = list_all (λ s. is_some (m.known s.profile day)) (shares_of mix)
