pub mod Rooms
pub mod Sections
