pub mod FirstIdsLemmas
pub mod KeptContentsLemmas
pub mod KeptTextsLemmas
pub mod NumberingLemmas
pub mod RenumberingLemmas
pub mod RewrittenLemmas
