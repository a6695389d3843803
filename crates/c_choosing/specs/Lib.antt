pub mod ChoosingCalls
pub mod Promises
