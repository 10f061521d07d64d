mod Cases
mod Creep
mod Marks
mod Brake
mod Released
pub mod Third
mod Answers
pub mod Agreement
pub mod Example
