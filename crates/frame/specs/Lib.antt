pub mod Length
pub mod Sizes
pub mod Identifier
pub mod Malformed
pub mod Rank
pub mod Arbitration
pub mod Sent
pub mod Promises
