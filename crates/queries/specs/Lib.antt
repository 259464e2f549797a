pub mod ByOrder
pub mod Folding
pub mod IdOrder
pub mod IndexOrder
pub mod LookedUp
pub mod PartlyTold
pub mod SortedIds
pub mod Piping
