pub mod Solver
pub mod Walks
pub mod Solved
pub mod QueryByRow
pub mod JoinedValues
