pub mod Promises
pub mod Answers
