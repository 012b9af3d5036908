pub mod Reading
pub mod SameLines
pub mod ShortLines
pub mod FileLines
