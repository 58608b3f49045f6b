pub mod BundleSums
pub mod Command
pub mod Draws
pub mod Sums
pub mod ViewSums
pub mod Work
pub mod Written
