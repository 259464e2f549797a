mod AskingLaws
pub mod StatementLaws
mod PlanLaws
pub mod AskedLaws
mod ChangedLemmas
