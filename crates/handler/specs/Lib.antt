pub mod Calls
pub mod Rows
pub mod Changes
pub mod Claims
pub mod Demand1
pub mod Demand2
pub mod Stars
pub mod Records
