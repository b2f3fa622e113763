pub mod Stands
pub mod Encoding
pub mod Conditions
pub mod Nodes
pub mod WellFormed
pub mod TreeOf
