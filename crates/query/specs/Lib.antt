pub mod Answer
pub mod Demand
pub mod Begin
pub mod Rules
