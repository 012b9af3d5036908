pub mod Widened
