pub mod Answers
pub mod Back
pub mod Needs
pub mod Promises
