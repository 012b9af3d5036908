pub mod Common
mod KeywordLemmas
mod HeaderLemmas
pub mod RingLemmas
pub mod MeshLemmas
