-- `MapMoves`: the map of a shuffle and what a mover does with it. `RoundTrips`: laws of moving a block. `Strides`: laws of walking.
-- `Shown`: what is shown tells the answer. `Demands`: the laws of the inverse. `Reasons`: what is refused by 3 can be explained. `Uniqueness`: no second answer fits.
pub mod MapMoves
pub mod RoundTrips
pub mod Strides
pub mod Demands
pub mod Reasons
pub mod Uniqueness
pub mod Shown
