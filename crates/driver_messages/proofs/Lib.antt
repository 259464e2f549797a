mod SeekingLemmas
mod SectionLemmas
mod WholeDoubleLemmas
mod WithIntegersLemmas
mod LengthLaws
pub mod CuttingLaws
