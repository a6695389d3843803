pub mod Rooms
pub mod Takes
pub mod Stores
