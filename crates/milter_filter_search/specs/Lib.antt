pub mod Texts
pub mod Needles
pub mod Searches
