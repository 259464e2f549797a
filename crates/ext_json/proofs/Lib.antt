pub mod CalendarLemmas
pub mod WritingLemmas
pub mod NumberLemmas
pub mod ParsingLemmas
pub mod MomentLemmas
pub mod ScalarsBack
pub mod TreesBack
