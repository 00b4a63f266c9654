mod KeptRecipients
mod ReceivedReplies
mod ReceivedOptions
pub mod NegotiatedOptions
pub mod ReceivedAnswers
mod NumberedCommands
mod StagesFound
mod PlanStages
mod CursorSteps
mod TransactionStages
mod TransactionSteps
pub mod PlanLaws
pub mod PlanOrders
