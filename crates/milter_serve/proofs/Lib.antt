pub mod KnownFileLaws
pub mod SameFiles
