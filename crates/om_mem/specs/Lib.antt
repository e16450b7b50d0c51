pub mod Contents
pub mod Gives
pub mod Laid
pub mod Laws
pub mod Pages
pub mod Rights
