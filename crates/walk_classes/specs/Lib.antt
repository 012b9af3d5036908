pub mod WalkClasses
pub mod Keys
pub mod Faults
pub mod WalkKeys
