pub mod Each
pub mod Plain
pub mod Lines
pub mod Numbers
pub mod Unread
pub mod Steps
pub mod Examples
