pub mod Common
mod ReadingLemmas
mod SameLemmas
pub mod ShortLemmas
mod FileLineLemmas
mod KeptLines
