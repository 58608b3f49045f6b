pub mod Ids
pub mod Iterators
pub mod Lines
pub mod Maps
pub mod ModuleMap
pub mod Numbers
pub mod Split
