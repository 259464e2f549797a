mod HandingLemmas
pub mod AskingLemmas
pub mod TurningLemmas
mod OneSocketLemmas
mod UnreadLemmas
mod RoundLemmas
mod ServedLemmas
mod SocketsLemmas
mod AwaitingLemmas
mod FollowingLemmas
mod RunningLemmas
