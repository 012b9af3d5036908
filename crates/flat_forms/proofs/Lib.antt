pub mod Within
pub mod SumsOfPairs
