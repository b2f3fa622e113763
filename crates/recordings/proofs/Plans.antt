pub mod Runs
pub mod Chains
pub mod Sheets
pub mod Queries
