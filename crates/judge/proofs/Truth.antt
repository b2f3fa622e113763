pub mod RightContexts
pub mod RowValues
pub mod Truth
