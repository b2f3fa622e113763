pub mod Known
pub mod Turns
