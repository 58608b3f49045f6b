pub mod DecodeLemmas
pub mod EncodeLemmas
pub mod EqualityLemmas
pub mod NamesLemmas
pub mod RewriteLemmas
pub mod RewriteTwice
pub mod WriteLemmas
