pub mod Counting
pub mod Entry
pub mod Order
pub mod Room
pub mod Subtrees
