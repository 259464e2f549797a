pub mod NameLemmas
pub mod IndexLemmas
pub mod WalkLemmas
pub mod PathSetLemmas
