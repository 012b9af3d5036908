pub mod Common
pub mod FoundLemmas
pub mod SplitGenera
pub mod Certifying
pub mod CertifyOutcomes
