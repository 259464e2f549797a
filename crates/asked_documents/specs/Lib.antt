pub mod Asking
pub mod ById
