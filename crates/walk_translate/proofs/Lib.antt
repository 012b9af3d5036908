pub mod Common
pub mod DecidingLemmas
pub mod LabelLemmas
pub mod SpokedLemmas
