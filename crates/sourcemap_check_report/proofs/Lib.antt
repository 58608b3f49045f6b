pub mod ElementLemmas
pub mod ReportLemmas
