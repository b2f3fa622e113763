pub mod Raised
pub mod WellFormed
pub mod Sizes
