-- `QuickTest`: acceptance by a test that is quick to compute. `Ascent`: numbers that ascend. `Rows`: the laws of the rows.
-- `Search`: what a search for a length comes to.
pub mod QuickTest
pub mod Ascent
pub mod Rows
pub mod Search
