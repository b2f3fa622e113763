pub mod LineSteps
pub mod ReportAnswers
