pub mod Common
pub mod ClaimLemmas
pub mod ClassLemmas
pub mod TurnLemmas
pub mod CoverLemmas
pub mod LiftLemmas
pub mod ExistingWays
