pub mod Temperatures
pub mod Weathers
pub mod WeatherDays
