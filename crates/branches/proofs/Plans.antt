pub mod Places
pub mod Fitting
pub mod With
pub mod Loops
pub mod Sheets
