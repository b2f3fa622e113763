-- what a line says
pub mod Tokens
pub mod Grammar
-- the body that it becomes
pub mod Entries
-- its reading, worked out
pub mod Lexing
pub mod Precedence
pub mod Reading
-- the call
pub mod Parsing
pub mod ParseCorrect
-- what private functions ask and promise; nobody has to believe it
pub mod Internal
