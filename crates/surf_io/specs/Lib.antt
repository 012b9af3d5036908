pub mod Faults
pub mod Files
pub mod Bytes
pub mod Calls
pub mod Gathered
pub mod Stored
pub mod Memory
