pub mod Change
pub mod Few
pub mod Fold
pub mod Loose
pub mod LooseView
pub mod OneChild
pub mod Scan
pub mod Turn
