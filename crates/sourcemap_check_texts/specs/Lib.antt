pub mod Checkpoints
pub mod Doubts
pub mod Generated
pub mod Shifts
pub mod Sources
