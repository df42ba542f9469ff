-- `Scaling`: why products alone find a place.
pub mod Scaling
