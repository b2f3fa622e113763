pub mod Digits
pub mod Pieces
pub mod Held
pub mod Keys
pub mod Passing
pub mod Answering
