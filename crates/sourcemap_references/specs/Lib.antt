pub mod Lines
pub mod Reference
pub mod References
pub mod Resolution
