pub mod FaultText
pub mod Ordered
