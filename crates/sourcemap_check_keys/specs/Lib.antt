pub mod MapRules
pub mod SectionRules
pub mod Values
