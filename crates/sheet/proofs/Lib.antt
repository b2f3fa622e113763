-- tests, checks and loops that seek the lowest number
pub mod Checks
-- the nodes of a rule: shapes, subtrees, children, binders
pub mod Nodes
-- a sheet is accepted exactly where it is well formed, and what an accepted one is made of
pub mod Acceptance
-- sheet and bodies turn into each other without change
pub mod Roundtrip
-- the smallest and the longest sheet
pub mod Limits
-- the plan as a labelled transition system
pub mod TransitionSystem
-- the order of its transitions
pub mod TransitionOrder
-- what the steps of the code show
pub mod Steps
