pub mod InProcess
