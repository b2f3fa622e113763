-- what a text says
pub mod Reading
-- the plan that it becomes
pub mod Plans
-- what the steps of the code show
pub mod Steps
pub mod Statements
