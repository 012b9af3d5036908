pub mod CyclicForms
pub mod FreeWords
