pub mod Conds
pub mod DayRowFacts
pub mod DaySums
pub mod Keeping
pub mod Listed
