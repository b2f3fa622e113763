-- tags that are known, and a turn of the loop over the bytes
pub mod Tags
-- the place of a branch, the plan with it and the sheet with it
pub mod Plans
-- what the steps of the code show
pub mod Steps
-- the calls
pub mod Statements
