pub mod Asked
pub mod Positions
pub mod Trace
