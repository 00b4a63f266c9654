pub mod FileStamp
pub mod KnownFiles
pub mod RefreshedRules
