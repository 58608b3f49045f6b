pub mod ExactLemmas
pub mod PlaceLemmas
pub mod RangeLemmas
pub mod SignLemmas
