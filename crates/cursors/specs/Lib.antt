pub mod Held
pub mod HeldCode
pub mod View
pub mod Changes
pub mod Ending
pub mod ListLaws
pub mod TableLaws
pub mod EndingLaws
