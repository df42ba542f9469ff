-- `Collisions`: two positions that share an address. `Failures`: a prime at which f fails to permute.
pub mod Collisions
pub mod Maps
pub mod Failures
