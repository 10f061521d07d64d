pub mod Motion
pub mod Plan
