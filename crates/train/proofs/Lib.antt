pub mod Refusals
pub mod Spans
pub mod Settling
pub mod Fives
pub mod Spanned
pub mod Judging
pub mod Lending
pub mod Numbered
