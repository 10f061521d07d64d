mod Strong
pub mod Answers
pub mod Ordered
