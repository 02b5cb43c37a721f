pub mod WeatherTells
