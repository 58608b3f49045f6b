pub mod Entries
pub mod Findings
pub mod Json
pub mod Lines
pub mod Places
pub mod Print
pub mod Suspicions
pub mod Words
