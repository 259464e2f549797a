pub mod Steps
pub mod BatchLoop
pub mod CursorSpelling
pub mod BatchEnding
pub mod SpelledSizes
pub mod Replying
pub mod WholeLemmas
