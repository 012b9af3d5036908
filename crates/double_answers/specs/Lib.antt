pub mod DoubledInputs
