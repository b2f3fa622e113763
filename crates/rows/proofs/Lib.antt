-- systems of rows: depth and need
pub mod Systems
-- tables: counting, cells in a list, filling
pub mod Tables
-- the solver with a table, and the query by rows
pub mod Solver
-- lists of queries
pub mod Lists
-- cells that follow from filled cells of their rows
pub mod Follows
