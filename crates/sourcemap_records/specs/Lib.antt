pub mod Bytes
pub mod Detection
pub mod Field
pub mod Jsontypes
pub mod Keys
pub mod Levels
