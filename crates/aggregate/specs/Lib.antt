pub mod Found
pub mod States
pub mod Table
pub mod Groups
pub mod Gathering
