pub mod UndoneCursors
pub mod CursorLives
pub mod Ordered
pub mod Located
pub mod Numbers
pub mod ShortIndexes
