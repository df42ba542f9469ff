-- To be believed: `Divisors`, `PrimePowers`, `Residues`, `Reciprocals`, `Lists`. The others serve inside.
pub mod Divisors
pub mod PrimePowers
pub mod Residues
pub mod Reciprocals
pub mod Lists
pub mod Factors
pub mod Decision
pub mod Absorption
pub mod Congruences
