pub mod DoubledAnswers
