pub mod CountLemmas
pub mod DirLemmas
pub mod PutsLemmas
