pub mod Words
pub mod Cursor
pub mod Runs
pub mod Strings
pub mod Values
pub mod Kept
