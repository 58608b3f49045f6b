pub mod PositionsLemmas
pub mod TraceLemmas
