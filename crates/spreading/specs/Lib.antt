-- To be believed: `Spreads`. The other serves inside.
pub mod Spreads
pub mod Minima
