pub mod Codes
pub mod Reading
pub mod Shifted
pub mod Suspects
