pub mod Ceilings
pub mod Paper
pub mod Answer
