pub mod Factors
pub mod Decelerations
