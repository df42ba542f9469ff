-- To be believed: `Shuffles`. `Strides` serves inside.
pub mod Shuffles
pub mod Strides
