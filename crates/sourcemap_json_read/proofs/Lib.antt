mod Heads
pub mod KeptLemmas
mod KeptReading
mod ExactLemmas
mod Lexemes
mod Numerals
mod Tokens
mod EscapeLemmas
pub mod ReadLemmas
pub mod RunLemmas
mod StringLemmas
mod ValueLemmas
mod Utf8Lemmas
