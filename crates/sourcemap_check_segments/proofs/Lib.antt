pub mod ExactLemmas
pub mod FindingLemmas
pub mod SegmentLemmas
