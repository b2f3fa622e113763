pub mod Rounds
pub mod Shares
pub mod OneRound
