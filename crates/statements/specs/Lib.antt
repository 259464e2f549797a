pub mod Redoing
pub mod WriteLaws
pub mod Updating
pub mod Room
