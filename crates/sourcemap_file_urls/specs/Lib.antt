pub mod Places
pub mod RelativePaths
pub mod Urls
