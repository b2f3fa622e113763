-- successors of a state, and the test for loops
pub mod Looptest
-- the search as a function, and what it leaves for a well-formed plan
pub mod Search
-- the public call
pub mod Answers
