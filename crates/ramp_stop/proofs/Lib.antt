mod Bounds
pub mod Rolling
pub mod Slower
pub mod Word
