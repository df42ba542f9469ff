pub mod Promises
pub mod Walkers
pub mod Answers
pub mod Steps
