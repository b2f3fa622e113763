pub mod Lengths
pub mod Putting
pub mod Answers
pub mod Texts
pub mod Cutting
pub mod Correct
