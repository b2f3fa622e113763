pub mod Text
pub mod Program
pub mod Buffers
pub mod ProgramCorrect
-- what private functions ask and promise; nobody has to believe it
pub mod Internal
