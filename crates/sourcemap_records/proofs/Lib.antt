pub mod BytesLemmas
pub mod DepthLemmas
mod DetectionLemmas
pub mod FieldLemmas
pub mod FromJsonLemmas
pub mod JsontypesLemmas
mod KeptLemmas
pub mod KeysLemmas
pub mod ReadBackLemmas
