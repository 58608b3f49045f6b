pub mod Findings
pub mod Last
pub mod Rules
pub mod Segments
pub mod Steps
