-- `Lent`: what the tests of an input and of the lists come to. `Uniqueness`: no second answer fits.
-- `Sharing`: the second coder codes the block as the interleaver moves it.
pub mod Lent
pub mod Uniqueness
pub mod Sharing
