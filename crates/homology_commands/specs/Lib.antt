pub mod Listings
pub mod Homology
pub mod PrintedHomology
