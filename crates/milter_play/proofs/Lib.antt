pub mod FilteringLaws
