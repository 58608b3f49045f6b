pub mod Items
pub mod Search
pub mod Tokens
