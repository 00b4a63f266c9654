pub mod Blocks
pub mod Occurrence
pub mod Counted
pub mod Symbols
pub mod Fields
