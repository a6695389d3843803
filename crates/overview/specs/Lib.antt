pub mod Overview
pub mod Promises
