pub mod CoveredInputs
