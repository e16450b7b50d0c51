pub mod FirstLemmas
pub mod FrameLemmas
pub mod BackLemmas
pub mod WritesLemmas
