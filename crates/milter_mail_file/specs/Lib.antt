pub mod LineValues
pub mod ClientOrigin
pub mod SessionFile
pub mod SessionFault
pub mod LineGroups
pub mod MessageLines
pub mod Openings
pub mod SessionText
