pub mod ReportCorrect
pub mod ReportsToTry
