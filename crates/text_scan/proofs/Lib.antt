pub mod Common
pub mod ListLemmas
pub mod PlaceLemmas
pub mod EachLemmas
pub mod WrittenLemmas
pub mod StepLemmas
mod ViewLemmas
mod NaturalLemmas
mod TextLemmas
