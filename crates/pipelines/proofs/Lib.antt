pub mod NameLemmas
pub mod ReadingLemmas
