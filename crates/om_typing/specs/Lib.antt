pub mod Columns
pub mod Mistakes
pub mod Names
pub mod Judging
pub mod Conditions
pub mod Queries
pub mod Typing
