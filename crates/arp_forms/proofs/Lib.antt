-- `Periods`: the period, computed. `ArpForms`: the shifts, and the addresses that they give.
pub mod Periods
pub mod ArpForms
