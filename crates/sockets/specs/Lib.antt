pub mod Faults
pub mod Stream
pub mod Places
pub mod Handing
