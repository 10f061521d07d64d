pub mod Answer
pub mod Answered
