pub mod FromRecordLemmas
pub mod ToRecordLemmas
