pub mod Bytes
pub mod Line
pub mod Records
