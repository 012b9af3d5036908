-- Lemmas behind the laws, which a trait's laws cite. The definitions that clauses cite stand in the other files.
pub mod Lists
pub mod Sums
pub mod WordEnds
pub mod PutLaws
pub mod Across
pub mod FromEnd
pub mod HyperLaws
