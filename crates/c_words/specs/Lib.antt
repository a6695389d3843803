pub mod Words
pub mod States
pub mod Frames
pub mod Needs
pub mod Promises
