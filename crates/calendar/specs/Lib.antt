pub mod Dates
pub mod Weeks
pub mod Seasons
pub mod Easter
pub mod Kinds
pub mod ExtraDays
