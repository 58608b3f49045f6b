pub mod Checking
pub mod Checks
pub mod Command
pub mod Compiled
pub mod Lines
pub mod Program
pub mod System
