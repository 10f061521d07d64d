mod Room
mod Answers
