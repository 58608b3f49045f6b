pub mod Blocks
pub mod Errors
pub mod Layout
pub mod Lookup
pub mod Numbers
pub mod Soundness
pub mod Stored
pub mod Texts
