mod Walk
mod Answers
