pub mod AnsweredLists
