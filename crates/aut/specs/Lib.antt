-- what a text says
pub mod Texts
-- its reading, worked out
pub mod Scanning
pub mod Reading
-- the plan that it becomes
pub mod Plans
-- the call
pub mod Converting
pub mod ConversionCorrect
-- texts worked through
pub mod TextsToTry
-- what private functions ask and promise; nobody has to believe it
pub mod Internal
