mod StoreLemmas
mod QuoteLemmas
pub mod WritingLemmas
