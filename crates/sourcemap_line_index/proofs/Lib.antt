pub mod ClosestLemmas
pub mod LineIndexLemmas
pub mod ProbeLemmas
pub mod SamplesLemmas
pub mod TableLemmas
pub mod TokenListLemmas
