-- the bytes of patterns
pub mod Reading
-- what the translation makes
pub mod Translation
-- the translated rule means the sentence about runs
pub mod Meaning
-- what the code's steps do
pub mod Steps
-- the call
pub mod Statements
-- worked examples
pub mod Examples
