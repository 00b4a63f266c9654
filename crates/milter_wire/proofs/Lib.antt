pub mod Names
pub mod SetLaws
mod SymListLaws
pub mod PayloadLaws
pub mod NamesText
pub mod NamedSets
pub mod KnownNames
pub mod Grammar
mod KnownCodes
pub mod CommandGrammar
pub mod ReplyGrammar
mod FrameLaws
