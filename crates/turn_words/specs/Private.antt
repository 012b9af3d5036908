-- What private contracts cite alone: how a wheel and a word are stored, and which steps a put notes.
pub mod StoredWheels
pub mod StoredWords
pub mod PutSteps
