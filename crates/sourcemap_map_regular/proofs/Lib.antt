mod AdjustLemmas
pub mod DecodeLemmas
pub mod EncodeLemmas
pub mod EqualityLemmas
pub mod MapLemmas
pub mod RewriteLemmas
pub mod RewriteMeaning
pub mod RewriteTwice
mod TokenLemmas
pub mod WriteLemmas
