pub mod FunctionMap
pub mod Offsets
pub mod OffsetsSteps
pub mod Picks
pub mod ScopeLists
pub mod SourceScopes
pub mod SourceScopesStored
