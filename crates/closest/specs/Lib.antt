-- document 02 (m)
pub mod Steps
pub mod Finding
pub mod ClosestCorrect
pub mod ClosestToTry
-- one shortest way to a state
pub mod Tracing
pub mod TraceCorrect
-- what private functions ask and promise; nobody has to believe it
pub mod Internal
