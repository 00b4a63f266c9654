pub mod Loops
pub mod LoopsLaw
