-- `Buffers`: texts one after the other. `Numerals`: digits and what they stand for. `Decimals`: the text of a number. `Grammar`: the
-- number at the front of a text, and that a line reads in one way. `Contents`: what a card tells, and no second card. `Storage`: a
-- line of which the first bytes are kept. `Pieces`: the pieces of the input.
pub mod Buffers
pub mod Numerals
pub mod Decimals
pub mod Grammar
pub mod Contents
pub mod Storage
pub mod Pieces
