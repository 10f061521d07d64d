mod Rows
pub mod Delays
pub mod FromZero
