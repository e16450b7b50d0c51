pub mod State
pub mod Actions
pub mod Step
pub mod First
pub mod Acts
pub mod Back
