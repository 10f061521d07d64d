pub mod Split
pub mod Places
pub mod Holding
pub mod Laid
pub mod Table
