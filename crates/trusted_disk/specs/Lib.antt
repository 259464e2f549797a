pub mod Trusting
pub mod Laws
