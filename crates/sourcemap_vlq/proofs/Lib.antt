pub mod BitLemmas
pub mod DigitLemmas
pub mod VlqLemmas
