pub mod Actions
pub mod Examples
