pub mod MailServerStates
