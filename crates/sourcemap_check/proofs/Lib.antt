pub mod ExactLemmas
pub mod KeptLemmas
pub mod LoopLemmas
pub mod TreeLemmas
