pub mod Requests
pub mod Expected
pub mod Standing
pub mod Promises
