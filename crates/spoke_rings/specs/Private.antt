-- How the loop is kept while it is worked on.
pub mod Rings
pub mod Seams
