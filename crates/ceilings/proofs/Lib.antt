pub mod Agrees
pub mod Answers
pub mod Rules
