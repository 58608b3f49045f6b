pub mod ListLemmas
pub mod MarkLemmas
pub mod RepeatLemmas
