-- lists of queries, one query after another
pub mod Lists
-- the length of a report's text
pub mod Texts
-- what the code's steps do
pub mod Steps
-- the call
pub mod Statements
