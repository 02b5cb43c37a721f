pub mod DayFactors
pub mod Pairs
pub mod Scaling
pub mod Joined
