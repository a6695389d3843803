pub mod Judgements
pub mod Sends
pub mod Events
pub mod Calls
pub mod Own
pub mod Fits
