pub mod BufferedLemmas
pub mod ListLemmas
pub mod MemberLemmas
pub mod PlainLemmas
pub mod SegmentLemmas
pub mod WholeLemmas
