pub mod Entering
pub mod EngineCalls
pub mod Promises
pub mod Needs
