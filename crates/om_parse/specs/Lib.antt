pub mod Identifiers
pub mod Grammar
pub mod Refusals
pub mod Reading
