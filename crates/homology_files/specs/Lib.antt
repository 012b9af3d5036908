pub mod HomologyTexts
pub mod WrittenTexts
pub mod Examples
