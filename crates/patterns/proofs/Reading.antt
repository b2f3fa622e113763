pub mod Passing
pub mod Readings
