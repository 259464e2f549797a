pub mod MessageSizes
