pub mod Answers
pub mod NewRule
pub mod TranslationCorrect
