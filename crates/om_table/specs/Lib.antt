pub mod Escape
pub mod Gap
pub mod Text
pub mod Wider
pub mod Within
