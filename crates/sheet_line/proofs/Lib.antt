pub mod Complement
pub mod Deciding
pub mod Tables
mod Coded
