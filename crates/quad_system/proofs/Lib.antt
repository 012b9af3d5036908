pub mod Common
pub mod PolygonLabelLemmas
pub mod FullLemmas
pub mod PushPathLemmas
pub mod SpokeProductLemmas
pub mod WalkLoopLemmas
pub mod PushWorthLemmas
pub mod FreePathLemmas
pub mod EqualWordLemmas
pub mod FlatWordLemmas
mod ReadingLemmas
mod PlaneGroupLemmas
mod PolygonMakingLemmas
mod ZeroLabelLemmas
mod FullExamples
