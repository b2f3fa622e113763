pub mod Lowest
pub mod Seeking
pub mod Checks
pub mod Bools
pub mod AnswerNumbers
