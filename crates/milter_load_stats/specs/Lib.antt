pub mod Buckets
pub mod Tallies
