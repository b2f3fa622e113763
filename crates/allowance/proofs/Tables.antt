pub mod Answers
pub mod EndToEnd
pub mod Outcomes
pub mod EachBench
pub mod TablesAfter
pub mod NothingFilled
