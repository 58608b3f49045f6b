pub mod ColumnsLemmas
pub mod IdentifiersLemmas
pub mod LinesLemmas
pub mod RunsLemmas
pub mod ViewsLemmas
pub mod WalkLemmas
