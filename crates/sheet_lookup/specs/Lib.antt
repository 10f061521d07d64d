pub mod Answer
pub mod Counts
