pub mod Refusals
pub mod Energy
pub mod Money
pub mod Makings
pub mod Texts
