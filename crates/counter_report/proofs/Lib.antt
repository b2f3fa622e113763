pub mod Inputs
pub mod Answers
pub mod Texts
pub mod Cutting
pub mod Statements
