pub mod Paths
pub mod Prefixes
pub mod Texts
