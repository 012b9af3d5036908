pub mod OwnVertices
pub mod PairDeciders
pub mod Orders
pub mod ComponentWords
pub mod WordFinders
