pub mod LinkLemmas
