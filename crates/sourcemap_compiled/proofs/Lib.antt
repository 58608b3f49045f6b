pub mod BlocksLemmas
pub mod LookupLemmas
pub mod NumbersLemmas
pub mod SoundnessLemmas
