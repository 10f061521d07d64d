pub mod Settled
pub mod Pair
pub mod Steady
pub mod Slower
