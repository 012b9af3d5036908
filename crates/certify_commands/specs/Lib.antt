pub mod Findings
pub mod Certify
pub mod Examples
