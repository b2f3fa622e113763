-- document 02 (l)
pub mod Dealing
pub mod DealingCorrect
pub mod DealingsToTry
pub mod Granting
pub mod GrantsCorrect
pub mod GrantsToTry
-- what private functions ask and promise; nobody has to believe it
pub mod Internal
