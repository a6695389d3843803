pub mod Places
pub mod Holding
pub mod Fitness
pub mod Moves
