pub mod Texts
pub mod Cards
pub mod Output
pub mod Fronts
pub mod Widths
