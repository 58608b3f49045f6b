pub mod BuilderLemmas
pub mod LoadedLemmas
