-- what a line says
pub mod Reading
-- the body that it becomes
pub mod Body
-- what the code's steps do
pub mod Steps
-- the call
pub mod Statements
-- worked examples
pub mod Examples
