pub mod Sections
pub mod Back
