mod RowLaws
pub mod AddressLaws
pub mod RequestLaws
pub mod FaultlessRows
pub mod FaultlessWalk
pub mod OfferLaws
