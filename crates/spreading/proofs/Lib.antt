-- `Minima`: the least of many numbers. `Circles`: distances round a circle. `Packing`: how many positions a spread takes. `Ascending`: the
-- search for the spread, which goes up. `Tables`: lists that go on from their start. `Spreads`: the spread is one number, and a table gives it.
-- `Rises`: a map that rises alike every q positions spreads round the circle what it spreads along the line. `Lines`: the spread and the spread
-- along the line.
pub mod Minima
pub mod Circles
pub mod Packing
pub mod Ascending
pub mod Tables
pub mod Spreads
pub mod Rises
pub mod Lines
