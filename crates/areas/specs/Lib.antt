pub mod Areas
pub mod Own
pub mod Promises
