pub mod Units
pub mod Coefficients
pub mod Gradient
pub mod Refusal
pub mod Number
pub mod Judged
pub mod Lent
