pub mod Definitions
pub mod KeySheet
