pub mod Reporting
pub mod Needs
pub mod Promises
