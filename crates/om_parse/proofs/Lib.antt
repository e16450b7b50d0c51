pub mod ListLemmas
pub mod Runs
pub mod Productions
pub mod Takes
pub mod ParseLaws
pub mod TotalLaws
pub mod PrefixLemmas
