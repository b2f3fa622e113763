pub mod PartKinds
pub mod Passing
pub mod SecondParts
pub mod Nodes
pub mod Drafts
pub mod Putting
pub mod Answering
