pub mod LoweredLists
pub mod FoldedLists
