pub mod Usable
pub mod Plan
pub mod Explaining
