pub mod FoldedNumbers
