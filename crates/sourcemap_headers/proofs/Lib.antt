pub mod DataUrlLemmas
pub mod DebugIdLemmas
pub mod HeaderReaderLemmas
