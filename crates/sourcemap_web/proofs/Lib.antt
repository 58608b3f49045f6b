pub mod SegmentsLemmas
pub mod TextsLemmas
