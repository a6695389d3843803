pub mod Fitting
pub mod Needs
pub mod Word0
pub mod Word1
pub mod Elements
pub mod Headers
pub mod Bytes
pub mod Promises
