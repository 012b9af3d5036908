pub mod CoveredAnswers
