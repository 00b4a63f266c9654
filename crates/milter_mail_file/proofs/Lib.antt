pub mod Paths
pub mod LineRuns
pub mod Macros
pub mod MessageRuns
pub mod SessionParts
