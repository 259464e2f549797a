pub mod EditPaths
pub mod Inside
pub mod Moving
pub mod Renaming
pub mod Unsets
pub mod View
