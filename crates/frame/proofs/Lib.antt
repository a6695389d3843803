pub mod Lengths
pub mod SizeLaws
pub mod Forms
pub mod Order
pub mod BusOrder
pub mod AsSent
pub mod ByDlc
