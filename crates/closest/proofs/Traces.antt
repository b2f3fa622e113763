pub mod Lasts
pub mod Backwards
pub mod Counts
pub mod Traces
pub mod Ways
