pub mod Reference
pub mod Demand2
pub mod SheetsToTry
-- what private functions ask and promise; nobody has to believe it
pub mod Internal
