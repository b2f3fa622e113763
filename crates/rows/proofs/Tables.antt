pub mod Among
pub mod Counting
pub mod Extension
pub mod Filling
