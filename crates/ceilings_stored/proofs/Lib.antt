mod Places
mod Tested
pub mod Agreement
