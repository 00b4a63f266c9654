pub mod AnswerRun
pub mod ConnectionLine
pub mod FileRun
pub mod ToolError
pub mod UsedRules
