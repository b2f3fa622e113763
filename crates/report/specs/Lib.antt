-- document 02 (g)
pub mod Text
pub mod Reporting
pub mod ReportCorrect
-- the judge's sheets to try
pub mod ReportsToTry
-- what private functions ask and promise; nobody has to believe it
pub mod Internal
