pub mod Brake
pub mod Furthest
pub mod Phases
pub mod Planned
pub mod Calculus
