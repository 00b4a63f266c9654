pub mod Recordings
pub mod ReadExchanges
pub mod RecordingFault
pub mod Sending
pub mod ExchangeText
pub mod Noted
