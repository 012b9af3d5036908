pub mod Common
pub mod Verifying
pub mod SomeVerdicts
pub mod VerifyHomologyOutcomes
