pub mod Codes
pub mod Compiling
pub mod Counts
pub mod Lookups
