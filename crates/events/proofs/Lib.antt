pub mod Judgements
pub mod Fits
pub mod OwnEvent
