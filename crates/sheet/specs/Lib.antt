pub mod Sheet
pub mod Fields
pub mod Headed
pub mod Kept
