pub mod Index
pub mod Preparing
pub mod Packed
pub mod Scanning
pub mod Deciding
pub mod Judging
pub mod Auditing
pub mod Turns
