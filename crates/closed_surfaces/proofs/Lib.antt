pub mod Common
pub mod Components
pub mod SomeParts
pub mod Genera
