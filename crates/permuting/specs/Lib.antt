-- To be believed: `Formulas`, `Permutations`, `Scratch`, `Blocks`. The others serve inside.
pub mod Formulas
pub mod Permutations
pub mod Scratch
pub mod Blocks
pub mod Tabulation
pub mod Bitmap
