pub mod Variable
pub mod Row
