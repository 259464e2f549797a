pub mod Tied
pub mod Turns
pub mod Opening
pub mod Batches
pub mod First
