pub mod Answer
pub mod Begin
