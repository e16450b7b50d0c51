pub mod OperandLemmas
pub mod LawLemmas
