pub mod NumberLaws
mod CompareLemmas
