pub mod TableLemmas
pub mod CleaningLemmas
pub mod InPlaceLemmas
