pub mod CommittedLists
pub mod FilledFiles
pub mod LeastLaws
pub mod ListRowsLemmas
pub mod ListedBooks
pub mod MadeLists
pub mod Marking
pub mod PartsOfLists
pub mod ReadingLists
pub mod Rewinding
mod Searching
pub mod SoundBooks
pub mod TakenPages
pub mod Undoing
pub mod UnusedPages
pub mod WrittenLists
