pub mod JoinedLists
pub mod Examples
