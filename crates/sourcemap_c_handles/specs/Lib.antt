pub mod Errors
pub mod Handles
pub mod Layout
pub mod Lending
pub mod Seal
