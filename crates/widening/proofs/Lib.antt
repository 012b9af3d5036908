pub mod Common
pub mod WidenedLemmas
pub mod WidenedPaths
mod WideningLemmas
