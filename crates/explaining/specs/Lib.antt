-- To be believed: `Reasons`. The other serves inside.
pub mod Reasons
pub mod Searches
