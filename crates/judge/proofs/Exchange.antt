pub mod GuardedNodes
pub mod ExchangedRows
