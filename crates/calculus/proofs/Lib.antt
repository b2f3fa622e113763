pub mod Table1
pub mod Decoding
pub mod Trees
pub mod Masks
pub mod Exchange
pub mod Definition2
pub mod Examples
