pub mod Projection
pub mod PathLists
pub mod ProjectionReading
pub mod ProjectionLaws
pub mod Seen
pub mod Rows
