pub mod SomesLemmas
pub mod ConjunctLemmas
pub mod SettlesLemmas
pub mod ColumnLemmas
pub mod VariableLemmas
pub mod TypingLemmas
pub mod ExistingLemmas
pub mod SplittingLemmas
