pub mod Demand2
pub mod WordAnswers
pub mod Examples
