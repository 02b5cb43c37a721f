pub mod Months
pub mod RoundTrips
mod Easters
mod ExtraLists
