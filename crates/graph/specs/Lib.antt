pub mod Successors
pub mod Loops
pub mod LoopTest
pub mod Index
pub mod Search
pub mod Explored
pub mod LoopSearch
-- what private functions ask and promise; nobody has to believe it
pub mod Internal
