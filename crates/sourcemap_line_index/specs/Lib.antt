pub mod LineIndex
pub mod Probe
pub mod Samples
pub mod TokenList
