pub mod Ordered
pub mod Timed
pub mod Exact
pub mod Bounds
