pub mod Meaning
pub mod DayRows
pub mod Targets
pub mod Tells
