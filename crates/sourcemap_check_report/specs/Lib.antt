pub mod Numbers
pub mod Report
