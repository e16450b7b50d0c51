pub mod NumberLemmas
pub mod PieceLemmas
pub mod PieceLaws
pub mod TokenLaws
pub mod QuoteLemmas
