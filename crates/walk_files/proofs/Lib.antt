pub mod Common
pub mod EntryLemmas
pub mod TwoWalkLemmas
pub mod PairLemmas
pub mod PairListLemmas
pub mod ClosedPairLemmas
pub mod MoveLines
pub mod EachLemmas
pub mod ListLemmas
pub mod ReaderLemmas
pub mod RoundTrip
pub mod FewLemmas
pub mod DenialLines
pub mod DenialParts
pub mod DenialRoundTrip
pub mod AnswerLines
pub mod TokenLemmas
pub mod PlainLines
pub mod HeaderLemmas
pub mod TextLemmas
mod SameGrammar
mod StreamLemmas
mod StreamDenials
mod WholeLineLemmas
