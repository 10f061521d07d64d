pub mod Walk
pub mod Back
