mod Judging
mod Answers
mod Example
pub mod Ahead
