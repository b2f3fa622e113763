pub mod Runs
-- the call, and what is proved of it
pub mod Shortest
pub mod RunAsSheet
pub mod RecordingsCorrect
-- what private functions ask and promise; nobody has to believe it
pub mod Internal
