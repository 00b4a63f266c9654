pub mod PacketLaws
pub mod LineLaws
pub mod PieceLaws
pub mod WriteLaws
pub mod TraceLaws
pub mod RunLaws
pub mod FieldLaws
