pub mod InTurn
pub mod Laws
pub mod UpdateLaws
pub mod AskedLaws
