pub mod Quoting
pub mod Writing
