pub mod Sort
pub mod SortReading
pub mod SortKeys
pub mod SortLaws
pub mod Rows
