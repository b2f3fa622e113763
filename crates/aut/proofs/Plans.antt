pub mod Labels
pub mod Different
pub mod Transitions
pub mod Body
