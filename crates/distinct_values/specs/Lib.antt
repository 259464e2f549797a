pub mod DistinctValues
pub mod Laws
