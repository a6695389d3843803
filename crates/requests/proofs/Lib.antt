pub mod Telling
pub mod Holding
pub mod Requesting
pub mod Choosing
pub mod Reporting
