pub mod ParseCorrect
