pub mod Order
pub mod Ranges
