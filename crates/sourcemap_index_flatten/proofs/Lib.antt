mod TableLemmas
mod EntriesLemmas
mod MovingLemmas
mod GatheringLemmas
mod FlatLemmas
mod MembersLemmas
mod KeptLemmas
pub mod AlikeLemmas
