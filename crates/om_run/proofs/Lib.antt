pub mod PositionLemmas
pub mod RunLemmas
pub mod TableLemmas
