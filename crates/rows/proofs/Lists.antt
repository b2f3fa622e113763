pub mod Lists
pub mod FromCleared
