pub mod GuardContracts
