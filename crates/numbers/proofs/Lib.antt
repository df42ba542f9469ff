-- A file has the laws of the definitions in the file of its name in specs/.
-- Beside them, `Divisors`: Euclid's algorithm and Bezout. `Primes`: every number above 1 has a prime divisor, and so absorption is what it
-- says of primes. `Computation`: tests that are computed.
pub mod Divisors
pub mod Congruences
pub mod Reciprocals
pub mod Absorption
pub mod Primes
pub mod PrimePowers
pub mod Factors
pub mod Residues
pub mod Lists
pub mod Computation
