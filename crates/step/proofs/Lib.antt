pub mod Judged
mod Placed
pub mod Answers
