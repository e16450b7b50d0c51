pub mod Claims
pub mod Pieces
pub mod Merging
