pub mod Firsts
pub mod Marks
pub mod Marking
pub mod Reached
pub mod FewStates
pub mod LayerLists
pub mod Links
pub mod OrderSteps
