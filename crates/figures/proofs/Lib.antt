pub mod Rows
pub mod Starred
pub mod Worked
pub mod Own
pub mod Turned
pub mod Ranges
