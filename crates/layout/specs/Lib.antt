pub mod Sections
pub mod Verdict
pub mod Legal
pub mod Promises
