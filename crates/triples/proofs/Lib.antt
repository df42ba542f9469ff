-- `Values`: when two positions share a value. `Rows`: the addresses in a row.
pub mod Values
pub mod Rows
