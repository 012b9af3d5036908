pub mod VerifyHomology
