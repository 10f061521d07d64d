pub mod Permitted
pub mod Find
