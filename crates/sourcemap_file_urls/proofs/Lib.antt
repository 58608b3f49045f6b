pub mod LeadsLemmas
pub mod RelativePathsLemmas
