pub mod Fit
mod Surely
