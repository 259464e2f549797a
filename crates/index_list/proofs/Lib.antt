pub mod NewIndexLemmas
pub mod DroppedIndexLemmas
