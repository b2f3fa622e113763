pub mod LoopSearchAnswers
pub mod LoopFoundExactly
