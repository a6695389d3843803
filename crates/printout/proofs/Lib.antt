pub mod Rows
pub mod Lines
pub mod Told
pub mod Written
pub mod Answers
pub mod Short
