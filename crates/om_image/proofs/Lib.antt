pub mod FoundLemmas
pub mod ReadLemmas
pub mod GrowingLemmas
pub mod HeaderLemmas
pub mod SizeLemmas
