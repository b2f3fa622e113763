-- the plan of a run, its sheet, and what a query of it tells
pub mod Plans
-- what the steps of the code show
pub mod Steps
-- the call
pub mod Statements
