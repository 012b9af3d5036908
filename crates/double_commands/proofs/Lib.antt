pub mod DoubleChecks
