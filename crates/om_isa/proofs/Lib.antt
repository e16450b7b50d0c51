pub mod PartsLemmas
pub mod TableLemmas
