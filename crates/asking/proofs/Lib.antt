-- `Numerals`: what digits stand for, one digit after the other. `Lines`: which word a line begins with.
pub mod Numerals
pub mod Lines
