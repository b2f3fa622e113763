pub mod JustCleared
pub mod SheetLists
pub mod Called
pub mod LongerTables
pub mod FilledTables
