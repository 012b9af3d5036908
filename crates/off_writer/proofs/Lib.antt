pub mod Common
pub mod RowLemmas
pub mod NumberTexts
pub mod ReadingBack
