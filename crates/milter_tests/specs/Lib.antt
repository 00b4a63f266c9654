pub mod WorkedMessage
pub mod WorkedEdits
pub mod WorkedPlan
pub mod WorkedMacros
pub mod WorkedSession
