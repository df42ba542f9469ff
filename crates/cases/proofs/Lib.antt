-- `Trials`: small numbers tried one by one. `Claim`: every case holds.
pub mod Trials
pub mod Claim
