pub mod TextValues
pub mod UnlistedValues
pub mod ConditionGroups
pub mod Decisions
pub mod ActionFields
pub mod Strings
pub mod ReadingLaws
mod LeastLawful
mod DeletedHeaders
mod NamedHeaders
mod GivenValues
mod ChangeRoom
mod TooManyEdits
