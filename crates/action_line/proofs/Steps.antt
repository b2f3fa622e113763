-- the tokens of a line
pub mod Numbers
pub mod Words
pub mod Capped
-- what they say of the line
pub mod Survey
-- the entries that they make
pub mod Reducing
pub mod Building
-- the pass over a line
pub mod Passing
-- the call
pub mod Answering
