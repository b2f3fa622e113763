pub mod Words
pub mod Evaluation
pub mod Answers
