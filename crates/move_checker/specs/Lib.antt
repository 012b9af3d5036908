pub mod Tapes
pub mod Refusals
pub mod Verdicts
pub mod Examples
