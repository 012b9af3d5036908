pub mod OpenInput
pub mod OpenPairs
pub mod DecideOpen
pub mod CertifyOpen
