pub mod Braking
pub mod Plan
pub mod Agreement
