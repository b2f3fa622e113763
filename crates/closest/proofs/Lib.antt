pub mod Ways
pub mod Search
pub mod Queries
pub mod Traces
pub mod Statements
