pub mod FunctionMapLemmas
pub mod OffsetsAnswers
pub mod OffsetsLemmas
pub mod PicksLemmas
pub mod ScopeListsLemmas
pub mod SourceScopesLemmas
