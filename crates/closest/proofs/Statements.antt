pub mod StepsExactly
pub mod SearchCorrect
pub mod ClosestCorrect
pub mod ClosestToTry
pub mod TraceCorrect
