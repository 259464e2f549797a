mod FieldLemmas
mod IdLemmas
mod ListingLemmas
mod IndexLemmas
mod BatchLemmas
mod NewIdLemmas
mod NewIdLawLemmas
mod BatchLawLemmas
pub mod ModifyingLemmas
