pub mod Chains
pub mod Judging
