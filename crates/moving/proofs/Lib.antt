-- `Walks`: what a mover keeps on its way, and what its return gives.
pub mod Walks
