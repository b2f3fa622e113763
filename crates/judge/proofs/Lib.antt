-- the cells of a sheet: rows, places in the table, ranks
pub mod Cells
-- the solution of the rows is Table 1
pub mod Truth
-- exchanging fixed points
pub mod Exchange
-- clearing and lists of queries
pub mod Lists
-- the audit of a filled table
pub mod Audit
-- the statements of specs/
pub mod Statements
-- what the code of each function shows
pub mod Steps
