pub mod RunAsSheet
pub mod Beginnings
pub mod Outcomes
pub mod OwnPlan
pub mod RecordingsCorrect
