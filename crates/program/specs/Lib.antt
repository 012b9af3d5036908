pub mod Headline
pub mod Premises
pub mod Commands
pub mod Outcomes
pub mod PrintedCertificates
pub mod Examples
