pub mod View
pub mod FirstBatch
pub mod OpenBatch
pub mod OpenBatchLaws
