pub mod Systems
pub mod Fuel
pub mod Changed
pub mod Needs
pub mod Members
pub mod NeededCells
