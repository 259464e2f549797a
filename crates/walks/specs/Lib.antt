pub mod Batches
pub mod IdRange
pub mod InOrder
pub mod Listed
pub mod Scanning
pub mod Within
