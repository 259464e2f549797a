mod PassedLemmas
mod ScanLemmas
pub mod AroundFew
pub mod AroundLemmas
pub mod BetweenLemmas
pub mod ChainLemmas
pub mod ChangeLemmas
pub mod ChangingLemmas
pub mod CuttingLemmas
pub mod EditLemmas
pub mod EndLemmas
pub mod FewLemmas
pub mod FewParts
pub mod HeldLemmas
pub mod InPageLemmas
pub mod JoinLemmas
pub mod LooseLemmas
pub mod OneChildLemmas
pub mod PartLemmas
pub mod PrepareLemmas
pub mod RaiseLemmas
pub mod RootLemmas
pub mod SettleLemmas
pub mod SplitLemmas
pub mod WideLemmas
