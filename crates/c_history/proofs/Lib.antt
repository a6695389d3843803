pub mod Refusals
pub mod Tables
pub mod Steps
pub mod Entry
pub mod Runs
