pub mod Bundle
pub mod Folder
pub mod Iterators
pub mod Modules
pub mod Stored
