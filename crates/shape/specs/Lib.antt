pub mod Refusals
pub mod Calls
pub mod Histories
pub mod Promises
