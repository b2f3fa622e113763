pub mod Bytes
pub mod Contents
pub mod Plan
pub mod Actions
pub mod KindNumbers
pub mod Kinds
pub mod Rule
pub mod WellFormed
pub mod Fields
pub mod TransitionSystem
pub mod Refusals
pub mod Reading
pub mod Writing
-- the calls, and what is proved of them
pub mod RunningCalls
pub mod AnswerNumbers
pub mod AnsweredCalls
pub mod Subtrees
pub mod Children
pub mod Bindings
pub mod FirstFault
pub mod Acceptance
pub mod GivenRefusals
pub mod RefusalOrder
pub mod Lengths
pub mod RoundTrip
-- what private functions ask and promise; nobody has to believe it
pub mod Internal
