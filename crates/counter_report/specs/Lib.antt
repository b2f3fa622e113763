pub mod Input
pub mod Program
pub mod Buffers
