pub mod Kinds
pub mod Fields
pub mod Given
pub mod Promises
