pub mod Placing
pub mod Inserting
pub mod Examining
pub mod Committing
