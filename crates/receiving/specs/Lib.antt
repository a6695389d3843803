pub mod Fifos
pub mod Priority
pub mod Receive
pub mod Needs
pub mod Promises
