-- To be believed: `Coders` and `Streams`. `States` and `Passes` serve inside.
pub mod Coders
pub mod Streams
pub mod States
pub mod Passes
