pub mod Totals
pub mod Bytes
pub mod Decoding
pub mod InPlace
