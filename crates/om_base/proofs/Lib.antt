pub mod FieldLaws
pub mod FirstLemmas
pub mod LebLaws
pub mod LebLemmas
pub mod PlaceLemmas
pub mod ReadingLaws
pub mod SpanLemmas
