pub mod Lines
pub mod Answers
pub mod Room
pub mod Cutting
pub mod KeyLine
