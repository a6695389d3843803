pub mod Buffers
pub mod Choosing
pub mod Needs
pub mod Promises
