pub mod Outcomes
pub mod ProposeAnswered
pub mod CommitAnswered
pub mod BranchesCorrect
