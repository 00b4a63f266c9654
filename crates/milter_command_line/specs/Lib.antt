pub mod Words
pub mod Subcommands
pub mod Address
pub mod CommandLine
pub mod GivenMacro
pub mod Target
pub mod UsageError
pub mod Mode
