pub mod ClassLaws
pub mod EscapingLaws
pub mod ScalarLaws
pub mod InversionLaws
pub mod WalkLaws
pub mod PutLaws
pub mod ByteLaws
pub mod KeyLaws
