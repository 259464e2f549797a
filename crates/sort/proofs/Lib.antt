pub mod StableSortLemmas
pub mod FrontLemmas
pub mod SortLemmas
pub mod TakenOutLemmas
pub mod FirstKeyLemmas
