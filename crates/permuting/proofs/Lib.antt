-- A file has the laws of the definitions in the file of its name in specs/.
-- Moving along cycles: `Cycles`, the marks of a walk; `Symbols`, what stands where meanwhile; `Traversal`, what a mover's proof calls.
pub mod Formulas
pub mod Tabulation
pub mod Permutations
pub mod Bitmap
pub mod Scratch
pub mod Cycles
pub mod Symbols
pub mod Traversal
pub mod Blocks
