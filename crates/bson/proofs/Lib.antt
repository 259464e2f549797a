pub mod BuildLaws
pub mod DepthLaws
pub mod FrontLaws
pub mod NameLaws
pub mod NestingLaws
pub mod OverviewLaws
pub mod PushLaws
pub mod WriteLoopLaws
