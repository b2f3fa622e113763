pub mod Lexemes
pub mod Checking
pub mod Building
pub mod Passing
pub mod Answering
