pub mod Common
pub mod PeakLemmas
pub mod TrimLemmas
