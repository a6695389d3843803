pub mod Keeps
pub mod Leaving
pub mod Names
pub mod Starts
