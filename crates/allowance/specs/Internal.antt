pub mod Copies
pub mod Benches
