pub mod Reasons
pub mod Rules
pub mod Cleaning
pub mod Commands
