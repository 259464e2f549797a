pub mod Room
pub mod Rows
