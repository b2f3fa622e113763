-- Table 1
pub mod Formulas
pub mod Meaning
pub mod Ranges
-- Table 1 computed
pub mod Eval
-- Definition 2
pub mod Definition2
-- sheets in the terms of Table 1
pub mod Decode
pub mod DecodedKinds
pub mod Trees
pub mod Verdict
pub mod KindMap
pub mod Exchange
pub mod MeetingMask
pub mod GuardCheck
pub mod KeySheet
-- what private functions ask and promise; nobody has to believe it
pub mod Internal
