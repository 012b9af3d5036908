pub mod Classes
pub mod Trees
pub mod Searches
pub mod Examples
