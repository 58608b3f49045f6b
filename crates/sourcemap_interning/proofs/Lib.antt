pub mod ItemLemmas
mod IndexLemmas
pub mod InternerLemmas
mod OverflowLemmas
