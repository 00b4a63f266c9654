pub mod Values
pub mod Places
pub mod Fitting
pub mod HandleValues
