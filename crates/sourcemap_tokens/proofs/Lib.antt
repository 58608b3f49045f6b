pub mod AllLemmas
pub mod DecidesLemmas
pub mod SearchLemmas
pub mod SortLemmas
pub mod TokensLemmas
