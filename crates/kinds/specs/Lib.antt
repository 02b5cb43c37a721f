pub mod AllKnown
pub mod Flats
pub mod TypedProfiles
pub mod Typeds
pub mod FlatRows
pub mod TypedDays
