pub mod MeasureLemmas
pub mod WalkLemmas
pub mod AmongLemmas
pub mod ParsingLemmas
pub mod KindLemmas
