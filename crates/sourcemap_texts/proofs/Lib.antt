pub mod PathsLemmas
pub mod PrefixesLemmas
pub mod TextsLemmas
