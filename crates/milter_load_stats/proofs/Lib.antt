pub mod BucketValues
pub mod Tallying
