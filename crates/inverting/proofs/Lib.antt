-- `Catalan`: their equation. `SeriesInverse`: the series undoes f. `Growth`: the loop that makes the series. `OddInverse`: the series of the
-- odd form, inside the limits, is the answer.
pub mod Catalan
pub mod SeriesInverse
pub mod Growth
pub mod OddInverse
