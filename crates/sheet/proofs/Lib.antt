pub mod Parts
pub mod Headed
pub mod Kept
pub mod RoundTrip
pub mod Writable
mod Example
pub mod Kth
