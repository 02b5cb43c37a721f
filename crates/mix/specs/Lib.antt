pub mod Shares
pub mod Mixes
pub mod Loads
