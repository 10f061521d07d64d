pub mod Way
pub mod Find
