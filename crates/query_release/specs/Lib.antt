pub mod Release
pub mod Find
