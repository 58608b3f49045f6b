pub mod Interner
pub mod Overflow
pub mod Slots
pub mod Texts
