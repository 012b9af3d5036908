pub mod Common
pub mod ClosedLemmas
pub mod SignedLemmas
pub mod FaultLemmas
pub mod FoundLemmas
pub mod ClassLemmas
