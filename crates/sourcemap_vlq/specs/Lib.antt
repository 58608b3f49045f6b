pub mod Bits
pub mod Vlq
