pub mod Places
pub mod Judgements
pub mod Opens
pub mod Memory
pub mod Fits
pub mod Own
