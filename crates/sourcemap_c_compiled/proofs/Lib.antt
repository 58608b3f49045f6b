pub mod CodesLemmas
pub mod LookupsLemmas
