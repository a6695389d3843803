pub mod Places
pub mod Reading
pub mod Releasing
pub mod Needs
pub mod Promises
