pub mod Terminals
pub mod Numerals
pub mod Tokens
pub mod Quotes
pub mod Cutting
