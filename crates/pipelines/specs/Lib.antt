pub mod View
pub mod GroupView
