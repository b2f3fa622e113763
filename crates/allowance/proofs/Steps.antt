pub mod Tables
pub mod Needing
pub mod Dealing
pub mod Granting
pub mod Accepting
