pub mod Climbing
pub mod Surely
