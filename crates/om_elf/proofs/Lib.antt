pub mod ListLemmas
pub mod TableLemmas
pub mod BlockLemmas
pub mod DisjointLemmas
pub mod SegmentLemmas
pub mod ExecutableLemmas
pub mod FoundLemmas
pub mod LoadedLemmas
