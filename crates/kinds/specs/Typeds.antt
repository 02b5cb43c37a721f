-- Profiles with a row for each season and kind of day, over a calendar.
--     typed_meaning kinds profiles    every day is known, by its season and its kind, and no number is taken
-- Assumes nothing.
use Rattle.std.specs.Prelude.{ℕ, cond, List, length, None, nat_le}
use Rattle.std.specs.Option.{option_map}
use Rattle.std.specs.List.{slice_get}
use Rattle.calendar.specs.declared.kind.DayKind.{DayKind}
use Rattle.calendar.specs.Seasons.{season}
use Rattle.shelf.specs.Meaning.{Meaning}
use Rattle.kinds.specs.declared.typed_profile.TypedProfile.{TypedProfile}
use Rattle.kinds.specs.TypedProfiles.{typed_row}

abbrev pub typed_meaning : (ℕ → DayKind) → List TypedProfile → Meaning
typed_meaning kinds profiles = record {
  count = length profiles;
  group = λ p. option_map (λ x. x.group) (slice_get profiles p);
  known = λ p d. cond (nat_le d 14609) (option_map (λ x. (typed_row x (season d) (kinds d)).values) (slice_get profiles p)) None;
  gives = λ p d n. None;
}
