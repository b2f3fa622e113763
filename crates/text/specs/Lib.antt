pub mod Decimal
pub mod Numerals
pub mod Words
pub mod RefusalLine
pub mod Placing
pub mod Comparing
