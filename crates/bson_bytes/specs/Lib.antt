pub mod Checked
pub mod FirstFault
pub mod Marks
pub mod Raw
pub mod RawNames
pub mod Decoding
pub mod Faults
