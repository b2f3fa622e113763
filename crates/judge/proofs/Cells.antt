pub mod BindersAbove
pub mod CellLayout
pub mod CellRows
pub mod SuccessorCells
pub mod ValidCells
pub mod Ranks
pub mod CountLayout
