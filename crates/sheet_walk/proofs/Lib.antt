mod OneMore
mod Walks
mod Underway
mod Promises
mod Steps
