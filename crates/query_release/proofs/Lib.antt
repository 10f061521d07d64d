pub mod Past
mod Surely
