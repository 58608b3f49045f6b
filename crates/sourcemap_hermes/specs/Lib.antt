pub mod Decode
pub mod Encode
pub mod Equality
pub mod Map
pub mod Rewrite
pub mod WithoutLoading
