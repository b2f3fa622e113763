pub mod Passing
pub mod Restarting
pub mod Fixpoints
pub mod Contexts
pub mod Clauses
pub mod Rounds
pub mod Reached
