pub mod Common
pub mod KeyLemmas
pub mod ClassLemmas
pub mod SeenLemmas
pub mod WalkKeyLemmas
pub mod ClassExamples
