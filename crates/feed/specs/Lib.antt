pub mod Prices
pub mod Hours
