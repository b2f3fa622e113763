pub mod Lists
pub mod Grants
pub mod Tables
pub mod Steps
pub mod Statements
