pub mod FlatLemmas
pub mod DistinctLemmas
pub mod WalkLemmas
