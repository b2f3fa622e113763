-- document 01, "Rows"
pub mod Rows
-- "Guard check, clearing, query"
pub mod Tables
-- document 02 (k)
pub mod FollowsFrom
-- what private functions promise; nobody has to believe it
pub mod Internal
