pub mod FolderLemmas
pub mod ModulesLemmas
