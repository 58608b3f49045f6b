pub mod CheckpointLemmas
pub mod GeneratedLemmas
pub mod MarkedLemmas
pub mod PlaceLemmas
pub mod ShiftLemmas
pub mod SpotLemmas
