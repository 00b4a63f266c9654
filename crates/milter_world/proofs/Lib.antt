pub mod CountedBytes
pub mod EntryLines
pub mod EntryAccounts
mod RunReports
mod DefaultCounts
mod Causes
mod Beginnings
mod ConnectionMoves
mod RoundMoves
mod Progress
mod Given
mod Undisturbed
mod PlanAborts
mod DialogueAnswers
mod ByteAnswers
mod SessionAnswers
mod Steps
mod FollowedPieces
mod DialogueFollowed
mod Opened
mod Reported
mod PieceMoves
mod EndSteps
mod EventMoves
mod EventCases
mod FreshEnds
mod ShortLines
pub mod Rounds
pub mod LineRuns
pub mod FileLaws
pub mod SmallNumbers
pub mod WorkedLines
mod Connections
mod EndsByParts
mod FedFilter
mod EventRuns
mod PlayedRounds
mod Places
mod ShownFields
mod Decided
mod NegotiatedBits
mod Thinned
mod ThinnedDialogues
mod ThinnedPlans
mod RuledAlike
mod SettledAlike
mod RulesLeaveOut
