pub mod Elements
pub mod Matching
pub mod Search
pub mod Needs
pub mod Destination
pub mod Promises
