pub mod Storing
pub mod Readings
pub mod Fitness
pub mod TableOfBits
pub mod WordsBack
pub mod OwnWords
pub mod RoundTrip
