pub mod Asked
pub mod Method
pub mod Above
pub mod Read
mod Answers
