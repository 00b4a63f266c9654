pub mod ExpectedReports
pub mod FilterRuns
pub mod InMemory
pub mod LimitedLinks
