pub mod Step
pub mod Order
pub mod Plan
