pub mod UnfinishedBytes
pub mod ReceivedFrames
pub mod FedPieces
pub mod Offered
pub mod ReceivedEvents
pub mod LeftChannels
pub mod QueuedCommands
pub mod Order
pub mod CallOrder
mod Answers
mod LostConnections
mod Methods
mod OneCall
mod CallStages
mod CalledStages
mod GivenExchanges
mod CalledDialogues
mod CalledMessages
mod FedInPieces
mod FollowingMessages
