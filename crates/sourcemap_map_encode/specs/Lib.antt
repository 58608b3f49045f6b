pub mod Buffered
pub mod Encoded
pub mod Members
pub mod Segments
