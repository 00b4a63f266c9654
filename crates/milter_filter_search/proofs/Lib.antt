pub mod FoldedParts
pub mod Occurrences
pub mod FoldedTexts
pub mod Values
pub mod BodySearches
mod FirstBytes
pub mod SearchedItems
