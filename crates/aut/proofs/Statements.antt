pub mod Answers
pub mod ConversionCorrect
pub mod TextsToTry
