pub mod TextLists
pub mod Contents
pub mod Sources
pub mod SourcesStored
pub mod MapMetadata
