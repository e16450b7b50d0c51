pub mod ColumnKinds
pub mod Kinds
pub mod Known
pub mod Looks
pub mod Meaning
pub mod Qualified
pub mod Row
