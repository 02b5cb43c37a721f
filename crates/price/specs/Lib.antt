pub mod Windows
pub mod Prices
pub mod Rounding
pub mod Answers
