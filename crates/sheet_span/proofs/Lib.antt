pub mod Order
mod Reaches
pub mod Stretches
mod OneMore
mod Slopes
mod Governing
pub mod Points
pub mod Ends
mod Halving
