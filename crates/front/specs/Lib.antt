pub mod Fronting
pub mod Asking
pub mod Turning
pub mod OneSocket
pub mod Unread
pub mod Rounds
pub mod Served
pub mod Running
