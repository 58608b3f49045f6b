pub mod Composition
pub mod Moved
pub mod BlockSort
pub mod Stretches
