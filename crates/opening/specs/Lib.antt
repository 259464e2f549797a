pub mod TurnStates
pub mod Judging
pub mod Loading
pub mod Holding
pub mod Totals
pub mod Refusing
pub mod FileOpening
