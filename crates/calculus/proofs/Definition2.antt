pub mod Since
pub mod GuardSteps
pub mod GuardCalls
