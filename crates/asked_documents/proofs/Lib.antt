pub mod ReadingLemmas
pub mod AskingLemmas
pub mod SelectsLemmas
