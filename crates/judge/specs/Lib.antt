-- document 01, "Rows"
pub mod Cells
pub mod LargestTable
-- document 02 (f)
pub mod StoredCount
-- "Guard check, clearing, query"
pub mod Clearing
pub mod Querying
pub mod Counting
pub mod OneSolution
pub mod QueryCorrect
pub mod CallNumbers
-- queries in turn, for document 02 (m)
pub mod InTurn
pub mod InTurnNumbers
-- "Lists of queries"
pub mod Lists
pub mod Demand3
-- document 02 (k)
pub mod Auditing
pub mod AuditCorrect
-- "Sheets to try"
pub mod SheetsToTry
-- what private functions ask and promise; nobody has to believe it
pub mod Internal
