pub mod Contents
pub mod Lists
pub mod Marks
