pub mod Lists
pub mod Ledgers
pub mod Requests
pub mod Balance
pub mod Standing
pub mod Pending
pub mod Promises
