mod StretchesLemmas
mod ClosestLemmas
mod CompositionLemmas
mod CompositionRows
mod BlockSortLemmas
pub mod MovedLemmas
