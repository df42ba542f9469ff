-- A file has the laws of the definitions in the file of its name in specs/.
-- Beside them, `Differences`: whole numbers by natural ones. `Naturals`: polynomials with natural coefficients. `Nulls`: the top coefficient
-- of one that is 0 everywhere. `Degrees`: least degree and uniqueness. `Instances`: an inverse that is given by numbers.
pub mod Differences
pub mod Naturals
pub mod Nulls
pub mod Bounds
pub mod Degrees
pub mod RisingProducts
pub mod Reductions
pub mod Inverses
pub mod Instances
