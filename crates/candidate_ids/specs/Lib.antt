pub mod Alternatives
pub mod ByIndex
