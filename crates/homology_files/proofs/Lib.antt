pub mod Common
pub mod RisingLemmas
pub mod ReadingLemmas
pub mod AnswerLemmas
pub mod WritingLemmas
pub mod RoundTrip
