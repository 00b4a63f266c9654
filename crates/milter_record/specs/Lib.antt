pub mod TraceLine
pub mod Pieces
