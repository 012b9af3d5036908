pub mod Covers
pub mod WaysRound
pub mod Examples
