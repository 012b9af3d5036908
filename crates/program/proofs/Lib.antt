pub mod Common
pub mod Rows
pub mod HeadlineLemmas
pub mod PremiseLemmas
mod PremiseFiles
mod PremiseInputs
pub mod Outcomes
pub mod Printed
pub mod WordTexts
mod LimitExamples
