pub mod Series
pub mod Invertible
