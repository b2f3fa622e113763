pub mod FilledCells
pub mod AuditNumbers
pub mod AuditSolved
pub mod AuditKept
