pub mod InRow
pub mod UpToAnswer
pub mod Answers
pub mod Looked
