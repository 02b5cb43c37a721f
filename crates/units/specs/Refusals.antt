-- The numbers of the refusals.
--     number r      the number by which the refusal r is known
-- Assumes nothing.
use Rattle.std.specs.Prelude.{ℕ}
use Rattle.units.specs.declared.refusal.Refusal.{Refusal}
use Rattle.units.specs.declared.refusal.Refusal.TheVariants.{BadLine, NoSuchDate, RuleBroken, OutOfRange, NotFound, AlreadyKnown, NumberNotTaken, NotAfterLastReading, PointOccupied, AgainstModel, AlreadySettled, EntryOutOfOrder, AlreadyEnded, EndOutOfPlace, ReadingMissing, DayUnknown, PriceMissing, WrongBillState, NotFirstOpenDay, AlreadyPublished, HourMissing, NoEnergy, TableFull, BufferTooShort}

abbrev pub number : Refusal → ℕ
number BadLine = 1
number NoSuchDate = 2
number RuleBroken = 3
number OutOfRange = 4
number NotFound = 5
number AlreadyKnown = 6
number NumberNotTaken = 7
number NotAfterLastReading = 8
number PointOccupied = 9
number AgainstModel = 10
number AlreadySettled = 11
number EntryOutOfOrder = 12
number AlreadyEnded = 13
number EndOutOfPlace = 14
number ReadingMissing = 15
number DayUnknown = 16
number PriceMissing = 17
number WrongBillState = 18
number NotFirstOpenDay = 19
number AlreadyPublished = 20
number HourMissing = 21
number NoEnergy = 22
number TableFull = 23
number BufferTooShort = 24
