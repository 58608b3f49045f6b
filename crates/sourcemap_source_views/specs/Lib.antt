pub mod Columns
pub mod Identifiers
pub mod Lines
pub mod Sourceview
pub mod Views
pub mod Walk
pub mod Walks
