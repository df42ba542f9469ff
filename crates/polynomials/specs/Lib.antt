-- To be believed: `Polynomials`, `Bounds`, `Inverses`. The others serve inside.
pub mod Polynomials
pub mod Bounds
pub mod Inverses
pub mod Reductions
pub mod RisingProducts
