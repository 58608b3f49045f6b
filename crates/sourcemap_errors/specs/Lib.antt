pub mod Answer
pub mod Errors
pub mod Due
