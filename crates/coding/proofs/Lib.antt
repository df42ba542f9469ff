-- `Coders`: what a coder does, from its polynomials alone, and that one coding fits a block. `Streams`: three streams fit. `States`: a coder
-- as a state that moves on. `Passes`: both coders over a block.
pub mod Coders
pub mod Streams
pub mod States
pub mod Passes
