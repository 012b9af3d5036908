pub mod Common
pub mod PairChecks
pub mod PairDecisions
pub mod DecideOutcomes
