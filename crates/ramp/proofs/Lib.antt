mod Moment
mod Distance
mod Kept
mod Spanned
pub mod Judging
pub mod Speeds
mod Further
mod Faster
mod Deciding
pub mod Answers
pub mod Always
pub mod Rising
