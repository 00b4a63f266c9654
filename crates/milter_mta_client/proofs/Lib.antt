pub mod WrittenParts
mod OnDialogue
mod EventRuns
mod Connected
mod ConnectionTurns
mod Noted
mod Dialled
mod Conversed
mod LoggedTexts
pub mod Advance
pub mod Differences
pub mod Ends
pub mod Open
