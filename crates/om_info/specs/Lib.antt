pub mod Text
pub mod Giving
