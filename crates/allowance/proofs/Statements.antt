pub mod DealingCorrect
pub mod DealingsToTry
pub mod GrantsCorrect
pub mod GrantsToTry
