pub mod EndedStates
pub mod CutInputs
pub mod PolicyCores
pub mod ConversationInputs
pub mod ServedBytes
mod Turns
mod Taken
mod Replied
mod Answered
