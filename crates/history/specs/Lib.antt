pub mod Books
pub mod Standing
pub mod Expected
pub mod Meant
pub mod Demand3
