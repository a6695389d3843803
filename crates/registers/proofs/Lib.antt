pub mod Fifos
pub mod Built
pub mod Bits
