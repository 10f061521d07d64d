pub mod Entered
pub mod Coefficients
