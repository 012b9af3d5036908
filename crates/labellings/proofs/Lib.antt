pub mod Common
pub mod SideLemmas
pub mod FoldLemmas
pub mod KeepingLemmas
pub mod StoredLabellingLemmas
pub mod EdgeRuleLemmas
pub mod WalkWordLemmas
pub mod VerdictLemmas
mod SpokeLemmas
pub mod PathLemmas
mod WordLemmas
mod NotedLemmas
