pub mod TwiceNumbers
