pub mod DoubledNumbers
