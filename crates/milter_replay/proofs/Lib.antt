pub mod SendingLaws
pub mod ReadLaws
