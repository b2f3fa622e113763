pub mod Successors
pub mod Settled
pub mod Height
pub mod LoopFree
