pub mod Follows
pub mod Sound
pub mod Complete
pub mod SolvedTables
pub mod Enough
