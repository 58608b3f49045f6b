pub mod LineLemmas
pub mod ReferenceLemmas
pub mod ReadingLemmas
