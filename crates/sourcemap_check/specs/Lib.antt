pub mod Findings
pub mod Levels
pub mod Maps
pub mod Positions
pub mod Rules
pub mod Steps
pub mod Trees
pub mod Validity
