pub mod Decimal
pub mod DigitsFound
pub mod Numerals
pub mod Words
pub mod Placing
pub mod RefusalLines
pub mod Comparing
