pub mod Picks
pub mod Calls
pub mod Candidates
pub mod Own
pub mod Answers
