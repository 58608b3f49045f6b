pub mod AsBox
pub mod HeldSend
pub mod Texts
pub mod ErrorsLemmas
