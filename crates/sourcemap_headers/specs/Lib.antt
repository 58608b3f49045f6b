pub mod DataUrl
pub mod DebugId
pub mod Header
pub mod HeaderReader
