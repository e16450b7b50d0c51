pub mod Columns
pub mod Typing
pub mod Unbuilt
pub mod Checking
pub mod Existing
pub mod Splitting
