pub mod Words
pub mod Members
