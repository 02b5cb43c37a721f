-- When profiles and percentages make a mix, and what the mix then holds.
--     ShareFits m g s          a percentage of at least 1, of a profile of group g
--     SharesFit m g shares     each share fits
--     MixFits m g shares       one to eight shares, each fits, and together they are the whole, 100
--     shares_of mix            the shares of a mix, in their order
--     Holds g shares mix       the mix is of group g, and has the shares in their order
-- Assumes nothing.
use Rattle.std.specs.Prelude.{◌≡◌, ◌≤◌, List, length, All, Some}
use Rattle.shelf.specs.declared.Group.{Group}
use Rattle.shelf.specs.Meaning.{Meaning}
use Rattle.mix.specs.declared.mixes.Mix.{Mix}
use Rattle.mix.specs.declared.share.Share.{Share}
use Rattle.mix.specs.Shares.{shares_in, percent_sum}

abbrev pub ShareFits : Meaning → Group → Share → Type 0
ShareFits m g s = (1 ≤ s.percent) × (m.group s.profile ≡ Some g)

abbrev pub SharesFit : Meaning → Group → List Share → Type 0
SharesFit m g shares = All (ShareFits m g) shares

pub record MixFits (m : Meaning) (g : Group) (shares : List Share) : Type 0 where
  pub some : 1 ≤ length shares
  pub few : length shares ≤ 8
  pub each : SharesFit m g shares
  pub whole : percent_sum shares ≡ 100

abbrev pub shares_of : Mix → List Share
shares_of mix = shares_in mix.count mix.shares

pub record Holds (g : Group) (shares : List Share) (mix : Mix) : Type 0 where
  pub grouped : mix.group ≡ g
  pub held : shares_of mix ≡ shares
