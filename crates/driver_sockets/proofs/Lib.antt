pub mod EachLemmas
pub mod GrowingLemmas
pub mod LoanLemmas
pub mod TyingLemmas
pub mod AloneLemmas
pub mod ReplyingLemmas
pub mod FrameLaws
