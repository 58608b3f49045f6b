pub mod Errors
pub mod Table
pub mod Entries
pub mod Moving
pub mod Gathering
