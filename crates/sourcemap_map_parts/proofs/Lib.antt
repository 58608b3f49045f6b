pub mod TextListsLemmas
pub mod FittingLemmas
pub mod ContentsLemmas
pub mod SourcesLemmas
pub mod EqualityLemmas
