pub mod EqualityLemmas
pub mod DecodeIndexLemmas
pub mod DecodeLemmas
pub mod DecodedMapLemmas
mod EmbeddedLemmas
pub mod EncodeLemmas
pub mod FamilyLemmas
pub mod FlattenLemmas
pub mod KindLemmas
pub mod LeavesLemmas
pub mod LookupLemmas
pub mod ReadLemmas
pub mod RowsLemmas
pub mod WriteLemmas
pub mod UrlErrorLemmas
pub mod WrittenValueLemmas
