pub mod Exact
pub mod Bounds
pub mod Steady
pub mod Ends
pub mod Weakest
pub mod Coursed
