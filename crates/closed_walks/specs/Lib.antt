pub mod FreeHomotopy
pub mod Examples
