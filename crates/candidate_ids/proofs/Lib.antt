pub mod ByIdLemmas
pub mod ByIndexLemmas
pub mod IdTextLemmas
pub mod TellingLemmas
pub mod MembersLemmas
pub mod AlternativesLemmas
