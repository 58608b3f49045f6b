pub mod CheckingLemmas
pub mod ChecksLemmas
pub mod CommandLemmas
pub mod CompiledLemmas
pub mod MapsLemmas
pub mod ProgramLemmas
