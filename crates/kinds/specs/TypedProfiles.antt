-- A profile with a row for each season and kind of day.
--     season_row rows kind             the row of a kind of day, of the rows of a season
--     typed_row profile season kind    the row of a kind of day in a season
-- Assumes nothing.
use Rattle.calendar.specs.declared.kind.DayKind.{DayKind}
use Rattle.calendar.specs.declared.kind.DayKind.TheVariants.{Workday, Saturday, Holiday}
use Rattle.calendar.specs.declared.season.Season.{Season}
use Rattle.calendar.specs.declared.season.Season.TheVariants.{Winter, Summer, Transition}
use Rattle.shelf.specs.declared.day_row.DayRow.{DayRow}
use Rattle.kinds.specs.declared.typed_profile.SeasonRows.{SeasonRows}
use Rattle.kinds.specs.declared.typed_profile.TypedProfile.{TypedProfile}

abbrev pub season_row : SeasonRows → DayKind → DayRow
season_row rows Workday = rows.workday
season_row rows Saturday = rows.saturday
season_row rows Holiday = rows.holiday

abbrev pub typed_row : TypedProfile → Season → DayKind → DayRow
typed_row profile Winter kind = season_row profile.winter kind
typed_row profile Summer kind = season_row profile.summer kind
typed_row profile Transition kind = season_row profile.transition kind
