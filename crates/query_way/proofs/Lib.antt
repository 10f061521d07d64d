pub mod Behind
pub mod Ways
pub mod Example
mod Found
