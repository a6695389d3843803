pub mod Raising
pub mod Taking
pub mod Promises
