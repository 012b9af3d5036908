pub mod Classes
pub mod Partitions
pub mod Links
pub mod Joined
