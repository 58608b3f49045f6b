pub mod FindingsLemmas
pub mod PlacesLemmas
pub mod TextLemmas
