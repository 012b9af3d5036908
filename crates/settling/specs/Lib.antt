pub mod TurnRows
pub mod Examples
