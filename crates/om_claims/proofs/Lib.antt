pub mod PieceLemmas
pub mod MergeLemmas
pub mod BestLemmas
pub mod LawLemmas
