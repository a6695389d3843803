pub mod Places
pub mod Requesting
pub mod Cancelling
pub mod Needs
pub mod Promises
