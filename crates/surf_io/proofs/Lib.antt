pub mod Common
pub mod Stored
pub mod Reading
pub mod Appending
pub mod Decimal
pub mod Gathering
