pub mod Tags
pub mod Branches
-- the calls, and what is proved of them
pub mod Proposing
pub mod Committing
pub mod BranchesCorrect
-- what private functions ask and promise; nobody has to believe it
pub mod Internal
